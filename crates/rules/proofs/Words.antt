-- Words and numbers: what stands in a list, the types of the table, and the addresses of step 8.
-- Assumes nothing.
use Rattle.std.proofs.Common.{◌≡◌, ℕ, suc, Bool, true, false, List, [], ◌∷◌, ◌&&◌, ◌||◌, length, refl, sym, ap, ◌∙◌}
use Rattle.std.specs.Prelude.{eqb, is_ok, Result, Ok, Err}
use Rattle.std.specs.List.{list_any}
use mathlib.Core.Path.{subst}
use mathlib.Core.Logic.{◌⊎◌, inl, inr}
use Rattle.std.proofs.lemmas.Bool.Decides.{same_from_decides, Decides-eqb}
use native.Mathlib.Omega.{arith}
use borrow.Author.Tests.{ne_eqb}
use mathlib.Core.Bool.{true≢false}
use Rattle.rules.specs.declared.Action.{Action}
use Rattle.rules.specs.declared.Action.TheVariants.{Start, Stop, Ask, Nothing}
use Rattle.rules.specs.declared.CommandType.{CommandType}
use Rattle.rules.specs.declared.CommandType.TheVariants.{MoreTime, SetUpEventList, TimerManagement, OpenChannel, CloseChannel, ReceiveData, SendData, GetChannelStatus}
use Rattle.rules.specs.declared.UnknownType.{UnknownType}
use Rattle.rules.specs.Checks.{◌⇒◌else◌, some_of, member, is_empty}
use Rattle.rules.specs.Table.{known, table}
use Rattle.rules.specs.Reading.{to_modem}
use Rattle.rules.specs.Bench.{bearer_proper}
use Rattle.rules.specs.Timers.{start_action, stop_action, ask_action}
use Rattle.rules.specs.Words.{Typed, Acts, byte_of, bits_of}

-- two numbers are the same in either order
eqb-comm : (a b : ℕ) → eqb a b ≡ eqb b a
eqb-comm a b = let d = Decides-eqb b a in same_from_decides (eqb a b) (eqb b a) (Decides-eqb a b) (λ e. sym (d.0 e), λ e. d.1 (sym e))

-- a value that is contained is a member
pub contains_member : (n : ℕ) (s : List ℕ) → list_any (λ (y : ℕ). eqb y n) s ≡ member n s
unfolding member some_of
contains_member n [] = refl
contains_member n (x ∷ s) = ap (λ (b : Bool). b || list_any (λ (y : ℕ). eqb y n) s) (eqb-comm x n) ∙ ap (λ (b : Bool). eqb n x || b) (contains_member n s)

-- the bytes that are read as a type are those of the table
pub typed_known : (b : ℕ) (r : Result CommandType UnknownType) → Typed b r → is_ok r ≡ known b
unfolding known table member some_of ◌⇒◌else◌
typed_known b (Ok MoreTime) e = subst (λ (x : ℕ). true ≡ known x) e refl
typed_known b (Ok SetUpEventList) e = subst (λ (x : ℕ). true ≡ known x) e refl
typed_known b (Ok TimerManagement) e = subst (λ (x : ℕ). true ≡ known x) e refl
typed_known b (Ok OpenChannel) e = subst (λ (x : ℕ). true ≡ known x) e refl
typed_known b (Ok CloseChannel) e = subst (λ (x : ℕ). true ≡ known x) e refl
typed_known b (Ok ReceiveData) e = subst (λ (x : ℕ). true ≡ known x) e refl
typed_known b (Ok SendData) e = subst (λ (x : ℕ). true ≡ known x) e refl
typed_known b (Ok GetChannelStatus) e = subst (λ (x : ℕ). true ≡ known x) e refl
typed_known b (Err u) e = sym e

-- a type and an action are told by their numbers
type_at : ℕ → CommandType
type_at b =
    eqb b 0x02 ⇒ MoreTime else
    eqb b 0x05 ⇒ SetUpEventList else
    eqb b 0x27 ⇒ TimerManagement else
    eqb b 0x40 ⇒ OpenChannel else
    eqb b 0x41 ⇒ CloseChannel else
    eqb b 0x42 ⇒ ReceiveData else
    eqb b 0x43 ⇒ SendData else
    GetChannelStatus

type_back : (t : CommandType) → type_at (byte_of t) ≡ t
unfolding type_at ◌⇒◌else◌
type_back MoreTime = refl
type_back SetUpEventList = refl
type_back TimerManagement = refl
type_back OpenChannel = refl
type_back CloseChannel = refl
type_back ReceiveData = refl
type_back SendData = refl
type_back GetChannelStatus = refl

action_at : ℕ → Action
action_at n = eqb n start_action ⇒ Start else eqb n stop_action ⇒ Stop else eqb n ask_action ⇒ Ask else Nothing

action_back : (a : Action) → action_at (bits_of a) ≡ a
unfolding action_at ◌⇒◌else◌
action_back Start = refl
action_back Stop = refl
action_back Ask = refl
action_back Nothing = refl

-- what a byte is read as, and the action of a qualifier, are one
pub typed_alike : (b : ℕ) (x y : Result CommandType UnknownType) → Typed b x → Typed b y → x ≡ y
typed_alike b (Ok t) (Ok u) p q = ap Ok (sym (type_back t) ∙ ap type_at (p ∙ sym q) ∙ type_back u)
typed_alike b (Ok t) (Err e) p q = absurd (true≢false (typed_known b (Ok t) p ∙ q))
typed_alike b (Err d) (Ok u) p q = absurd (true≢false (typed_known b (Ok u) q ∙ p))
typed_alike b (Err d) (Err e) p q = refl

pub acts_alike : (q : ℕ) (x y : Action) → Acts q x → Acts q y → x ≡ y
acts_alike q x y p r = sym (action_back x) ∙ ap action_at (p ∙ sym r) ∙ action_back y

-- a type that goes to the modem, and one that does not
pub modem_yes : (t : ℕ) → (t ≡ 0x02) ⊎ ((t ≡ 0x05) ⊎ ((t ≡ 0x27) ⊎ ((t ≡ 0x40) ⊎ (t ≡ 0x44)))) → true ≡ to_modem t
unfolding to_modem member some_of
modem_yes t (inl e) = rw e
modem_yes t (inr (inl e)) = rw e
modem_yes t (inr (inr (inl e))) = rw e
modem_yes t (inr (inr (inr (inl e)))) = rw e
modem_yes t (inr (inr (inr (inr e)))) = rw e

pub modem_no : (t : ℕ) → ((t ≡ 0x02) ⊎ ((t ≡ 0x05) ⊎ ((t ≡ 0x27) ⊎ ((t ≡ 0x40) ⊎ (t ≡ 0x44)))) → ⊥) → false ≡ to_modem t
unfolding to_modem member some_of
modem_no t n =
    rw (
      ne_eqb t 0x02 (λ e. n (inl e)),
      ne_eqb t 0x05 (λ e. n (inr (inl e))),
      ne_eqb t 0x27 (λ e. n (inr (inr (inl e)))),
      ne_eqb t 0x40 (λ e. n (inr (inr (inr (inl e))))),
      ne_eqb t 0x44 (λ e. n (inr (inr (inr (inr e))))),
    )

-- a byte that is none of the table's
pub not_known :
    (t : ℕ) → (t ≡ 0x02 → ⊥) → (t ≡ 0x05 → ⊥) → (t ≡ 0x27 → ⊥) → (t ≡ 0x40 → ⊥) → (t ≡ 0x41 → ⊥) → (t ≡ 0x42 → ⊥) → (t ≡ 0x43 → ⊥) → (t ≡ 0x44 → ⊥) → known t ≡ false
unfolding known table member some_of
not_known t a b c d e f g h =
    rw (ne_eqb t 0x02 a, ne_eqb t 0x05 b, ne_eqb t 0x27 c, ne_eqb t 0x40 d, ne_eqb t 0x41 e, ne_eqb t 0x42 f, ne_eqb t 0x43 g, ne_eqb t 0x44 h)

-- a bearer is proper by its type and how many parameters it has
pub bearer_sized : (k : ℕ) (s : List ℕ) → bearer_proper (record { kind = k; parameters = s }) ≡ (eqb k 0x02 && eqb (length s) 6) || (eqb k 0x03 && eqb (length s) 0)
unfolding bearer_proper is_empty
bearer_sized k [] = refl
bearer_sized k (x ∷ s) = rw (ne_eqb (suc (length s)) 0 (omega arith))
