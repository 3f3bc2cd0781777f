-- The tool that a search of the names finds is the one that the word names.
-- Assumes nothing.
use Prim.Native.Nat.{ℕ}
use mathlib.Core.Path.{◌≡◌, refl, ap, ◌∙◌}
use mathlib.Core.Bool.{Bool, true, false, ◌&&◌, cond}
use mathlib.Core.List.{List, [], ◌∷◌, map}
use lib.Dec.{eqb}
use denote.Ref.{Bor}
use Rattle.std.specs.Prelude.{Option, Some, None, option_map}
use Rattle.std.specs.List.{find}
use Rattle.std.specs.Str.{bytes_eq}
use Rattle.rules.specs.Checks.{◌⇒◌else◌, same}
use Rattle.tools.specs.declared.Tool.{Tool}
use Rattle.tools.specs.declared.Tool.TheVariants.{Lines, Calls, Bench, Details, Fetch, Mend, CsimImport, CsimExport, AlphaRead, AlphaWrite}
use Rattle.tools.specs.Names.{lines_name, calls_name, bench_name, details_name, fetch_name, mend_name, import_name, export_name, alpha_read_name, alpha_write_name, exchange_named, tool_named}

-- std's test of two lists as that of the rules
same_lists : (l m : List ℕ) → bytes_eq l m ≡ same l m
unfolding same
same_lists [] [] = refl
same_lists [] (d ∷ m) = refl
same_lists (c ∷ l) [] = refl
same_lists (c ∷ l) (d ∷ m) = ap (λ (b : Bool). eqb c d && b) (same_lists l m)

-- the tool that a word names among these, the first of its name
unfoldable named_in : List (List ℕ × Tool) → List ℕ → Option Tool
named_in [] w = None
named_in (x ∷ xs) w = same w x.0 ⇒ Some x.1 else named_in xs w

abbrev names : List (List ℕ × Tool)
names =
    (lines_name, Lines) ∷ (calls_name, Calls) ∷ (bench_name, Bench) ∷ (details_name, Details) ∷ (fetch_name, Fetch) ∷ (mend_name, Mend)
    ∷ (import_name, CsimImport) ∷ (export_name, CsimExport) ∷ (alpha_read_name, AlphaRead) ∷ (alpha_write_name, AlphaWrite) ∷ []

names_named : (w : List ℕ) → named_in names w ≡ tool_named w
unfolding named_in tool_named exchange_named
names_named w = refl

-- an entry of the code's list, and the list as that of the names
abbrev pub Entry : Type 0
Entry = Bor (List ℕ) × Tool

abbrev pub listed : List Entry → List (List ℕ × Tool)
listed = map (λ (x : Entry). (x.0.now, x.1))

-- what a search of such a list finds
found_in : (xs : List Entry) (w : List ℕ) → option_map (λ (x : Entry). x.1) (find (λ x. bytes_eq w x.0.now) xs) ≡ named_in (listed xs) w
unfolding named_in ◌⇒◌else◌
found_in [] w = refl
found_in (x ∷ xs) w =
    ap (λ (b : Bool). option_map (λ (x : Entry). x.1) (cond b (Some x) (find (λ x. bytes_eq w x.0.now) xs))) (same_lists w x.0.now) ∙ by (found_in xs w) (same w x.0.now)
  where
    by :
        option_map (λ (x : Entry). x.1) (find (λ x. bytes_eq w x.0.now) xs) ≡ named_in (listed xs) w → (b : Bool) →
        option_map (λ (x : Entry). x.1) (cond b (Some x) (find (λ x. bytes_eq w x.0.now) xs)) ≡ (b ⇒ Some x.1 else named_in (listed xs) w)
    by h true = refl
    by h false = h

-- the search of the names, by what it looks through and finds
pub name_found :
    (xs : List Entry) (w : List ℕ) (found : Option (Bor Entry)) (r : Option Tool) → listed xs ≡ names →
    option_map (λ (x : Bor Entry). x.now) found ≡ find (λ x. bytes_eq w x.0.now) xs → r ≡ option_map (λ (x : Bor Entry). x.now.1) found → r ≡ tool_named w
name_found xs w found r n f e =
    e ∙ by found ∙ ap (option_map (λ (x : Entry). x.1)) f ∙ found_in xs w ∙ ap (λ l. named_in l w) n ∙ names_named w
  where
    by : (o : Option (Bor Entry)) → option_map (λ (x : Bor Entry). x.now.1) o ≡ option_map (λ (x : Entry). x.1) (option_map (λ (x : Bor Entry). x.now) o)
    by None = refl
    by (Some x) = refl
