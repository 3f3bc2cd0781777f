-- A command whose type has a plan: steps 6 to 8, and the needed objects behind step 7.
-- Assumes nothing.
use Prim.Native.Nat.{ℕ}
use mathlib.Core.Path.{◌≡◌, sym, ap, subst, ◌∙◌}
use mathlib.Core.Bool.{Bool, true, false, not}
use mathlib.Core.List.{List}
use Rattle.std.specs.Prelude.{Option, Some}
use borrow.Author.Tests.{not-false}
use Rattle.rules.specs.declared.Details.{Details}
use Rattle.rules.specs.Checks.{◌⇒◌else◌, is_empty, some_of, member}
use Rattle.rules.specs.Frames.{Object, walk}
use Rattle.rules.specs.Table.{row_of, present, value_of, complete, length_fits, measured}
use Rattle.rules.specs.Reading.{Reading, wrong, asked, addressed, read_objects}
use Rattle.rules.proofs.Laws.{stop, skip}
use Rattle.rules.proofs.Readings.{value_fits}
use Rattle.command.specs.declared.Plan.{Plan}
use Rattle.command.specs.declared.Sorted.{Sorted}
use Rattle.command.specs.declared.Survey.{Survey}
use Rattle.command.specs.Plans.{needed}
use Rattle.command.specs.Surveys.{all_stand}
use Rattle.command.specs.Requests.{the_details, the_objects, the_command, ValueAt, StandsAt, Typed, Begun}
use Rattle.command.proofs.Keys.{every_member}
use Rattle.command.proofs.Needed.{needed_required, needed_alike}
use Rattle.command.proofs.Steps.{read_typed}

-- steps 6 and 7 are passed too, and the required values start there
pub record Fitted (s : List ℕ) (d : Details) (plan : Plan) (v : Sorted) (devices own further : ℕ) : Type 0 where
  pub begun : Begun s d plan v
  pub unflagged : some_of (λ (x : Object). x.flag) (the_objects s).unexpected ≡ false
  pub whole : complete (row_of (the_details s)) (the_objects s).counting ≡ true
  pub fit : measured (the_objects s).counting ≡ true
  pub at_devices : ValueAt devices s 0x02
  pub at_own : ValueAt own s plan.row.own
  pub at_further : ValueAt further s plan.row.further

module _ {s : List ℕ} {d : Details} {plan : Plan} {v : Sorted} (b : Begun s d plan v) where
  told : {r : Reading} {e : ℕ} → r ≡ wrong (the_details s) e → r ≡ wrong d e
  told {e = e} q = q ∙ ap (λ (x : Details). wrong x e) b.details

  -- step 6
  flagged : v.survey.flagged ≡ some_of (λ (x : Object). x.flag) (the_objects s).unexpected
  flagged = ap (λ (y : Survey). y.flagged) b.sorted.survey

  pub known_flagged : v.survey.flagged ≡ true → (p : List ℕ) → Typed p s → read_objects p s ≡ wrong d 0x32
  known_flagged e p t = told (read_typed p s t ∙ stop _ _ _ (sym flagged ∙ e))

  module _ (f : v.survey.flagged ≡ false) where
    -- step 7
    pub known_incomplete : all_stand v.devices v.own v.further ≡ false → (p : List ℕ) → Typed p s → read_objects p s ≡ wrong d 0x36
    known_incomplete e p t = told (read_typed p s t ∙ skip _ _ _ (sym flagged ∙ f) ∙ stop _ _ _ (ap not (sym b.sorted.complete ∙ e)))

    module _ {devices own further : ℕ} (q : v.devices ≡ Some devices) (r : v.own ≡ Some own) (u : v.further ≡ Some further) where
      whole : complete (row_of (the_details s)) (the_objects s).counting ≡ true
      whole = sym b.sorted.complete ∙ (λ i. all_stand (q i) (r i) (u i))

      misfit : v.survey.misfit ≡ not (measured (the_objects s).counting)
      misfit = ap (λ (y : Survey). y.misfit) b.sorted.survey

      pub known_misfit : v.survey.misfit ≡ true → (p : List ℕ) → Typed p s → read_objects p s ≡ wrong d 0x32
      known_misfit e p t =
          told (read_typed p s t ∙ skip _ _ _ (sym flagged ∙ f) ∙ skip _ _ _ (ap not whole) ∙ stop _ _ _ (sym misfit ∙ e))

      pub fitted : v.survey.misfit ≡ false → Fitted s d plan v devices own further
      fitted e =
          record {
            begun = b;
            unflagged = sym flagged ∙ f;
            whole = whole;
            fit = not-false (measured (the_objects s).counting) (sym misfit ∙ e);
            at_devices = subst (λ (o : Option ℕ). StandsAt o s 0x02) q b.sorted.devices;
            at_own = subst (λ (o : Option ℕ). StandsAt o s plan.row.own) r b.sorted.own;
            at_further = subst (λ (o : Option ℕ). StandsAt o s plan.row.further) u b.sorted.further;
          }

-- behind step 7
module _ {s : List ℕ} {d : Details} {plan : Plan} {v : Sorted} {devices own further : ℕ} (z : Fitted s d plan v devices own further) where
  abbrev counts : List Object
  counts = (the_objects s).counting

  abbrev right : Bool
  right = addressed (the_details s).kind (the_command s).source (the_command s).destination

  -- step 8
  settled : (p : List ℕ) → Typed p s → read_objects p s ≡ (not right ⇒ wrong (the_details s) 0x32 else asked (the_command s) (not (is_empty (the_objects s).unexpected)))
  settled p t =
      read_typed p s t ∙ skip _ _ _ z.unflagged ∙ skip _ _ _ (ap not z.whole) ∙ skip _ _ _ (ap not z.fit)

  pub known_misaddressed : right ≡ false → (p : List ℕ) → Typed p s → read_objects p s ≡ wrong d 0x32
  known_misaddressed e p t = told z.begun (settled p t ∙ stop _ _ _ (ap not e))

  pub known_asked : right ≡ true → (p : List ℕ) → Typed p s → read_objects p s ≡ asked (the_command s) v.survey.ignored
  known_asked e p t = settled p t ∙ skip _ _ _ (ap not e) ∙ ap (λ (y : Survey). asked (the_command s) y.ignored) (sym z.begun.sorted.survey)

  -- a needed object is there, with its value and its length
  module _ (n : ℕ) (e : member n (needed plan.row) ≡ true) where
    needed_counts : present n counts ≡ true
    unfolding complete
    needed_counts = every_member (λ k. present k counts) n (row_of (the_details s)).required z.whole (needed_required s z.begun.planned.row n e)

    pub needed_there : present n (walk s).objects ≡ true
    needed_there = sym (needed_alike s z.begun.planned.row n e).there ∙ needed_counts

    pub needed_value : value_of n counts ≡ value_of n (walk s).objects
    needed_value = (needed_alike s z.begun.planned.row n e).value

    pub needed_fits : length_fits n (value_of n (walk s).objects) ≡ true
    needed_fits = ap (length_fits n) (sym needed_value) ∙ value_fits n counts needed_counts z.fit
