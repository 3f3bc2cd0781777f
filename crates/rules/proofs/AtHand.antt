-- What command is at hand is what the full handling tells: the details that the bench reads in every answer.
-- Assumes nothing.
use Prim.Native.Nat.{ℕ}
use mathlib.Core.Path.{◌≡◌, refl, sym, ap, ◌∙◌}
use mathlib.Core.Bool.{false, ◌||◌, false≢true}
use mathlib.Core.List.{List}
use lib.ListN.{length}
use lib.Dec.{ltb}
use Rattle.rules.specs.Checks.{is_empty}
use Rattle.rules.specs.Frames.{framed, contents}
use Rattle.rules.specs.State.{State}
use Rattle.rules.specs.Reading.{Reading, wrong, asked, reading}
use Rattle.rules.specs.AtHand.{details_told, packed_details, at_hand}
use Rattle.rules.specs.Written.{Response}
use Rattle.rules.specs.Command.{Answer, wrote, command, meant_by, Terms}
use Rattle.rules.specs.Bench.{told, bench_read}
use Rattle.rules.specs.Sound.{Sound}
use Rattle.rules.proofs.Laws.{branch, skip, not_not}
use Rattle.rules.proofs.Heard.{modem_heard}
use Rattle.rules.proofs.HandDetails.{read_with, not-true, objects_details, framed_details}

-- so does the reading of a command
pub reading_details : (p s : List ℕ) → read_with (reading p s) ≡ details_told s
unfolding reading details_told
reading_details p s =
    branch (λ (r : Reading). read_with r ≡ details_told s) _ _ _ (λ e. sym (skip _ _ _ (not-true (framed s) e)))
    (λ e. objects_details p (contents s) ∙ sym (framed_details s (not_not (framed s) e)))

meant_details : (a : State) (r : Reading) → (meant_by a r).response.details ≡ read_with r
unfolding meant_by
meant_details a (wrong d e) = refl
meant_details a (asked c i) = refl

-- a command that is not refused has its size
few : (a : State) (terms : Terms) (s t : List ℕ) → (command a terms s).outcome ≡ wrote t → is_empty s || ltb 256 (length s) ≡ false
unfolding command
few a terms s t =
    branch (λ (x : Answer). x.outcome ≡ wrote t → is_empty s || ltb 256 (length s) ≡ false) _ _ _ (λ _ q. absurd (false≢true (cc)))
    (λ _. branch (λ (x : Answer). x.outcome ≡ wrote t → is_empty s || ltb 256 (length s) ≡ false) _ _ _ (λ _ q. absurd (false≢true (cc))) (λ f _. f))

-- for every state and every command that is not refused, the bench reads in the answer just the details that are at hand
pub at_hand_lem :
    (a : State) (terms : Terms) (s t : List ℕ) (r : Response) → Sound a → (command a terms s).outcome ≡ wrote t → bench_read t ≡ told r →
    at_hand s ≡ packed_details r.details
unfolding at_hand
at_hand_lem a terms s t r h e q =
    let m = meant_by a (reading a.profile s) in
    let heard = sym (modem_heard a terms s t h e) ∙ q in
    let is : m.response ≡ r = cc in
    let same = ap (λ (x : Response). x.details) (sym is) ∙ meant_details a (reading a.profile s) ∙ reading_details a.profile s in
    skip _ _ _ (few a terms s t e) ∙ ap packed_details (sym same)
