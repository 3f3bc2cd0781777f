-- What it gives that a contract settles the outcome: one result, and one content of all that was lent.
-- Assumes nothing.
use Prim.Native.Nat.{ℕ}
use mathlib.Core.Path.{◌≡◌}
use mathlib.Core.List.{List}
use seplogic.Ra.Ura.{Ura}
use base.Logic.{SProp, ent, via}
use prog.Memory.{Memory}
use prog.Routine.{Routine}
use types.Logic.{Logic}
use contract.Lifetimes.{Lfts}
use contract.Monad.{Fun, conj, fact, fact_mono}
use denote.Triple.Entry.{Args, Res}
use denote.Triple.Clauses.{Ended, Lasts, at_exit}
use borrow.Fn.Kinds.{ParamKind, ResultKind, Dens, In, Out, res_t, ended_of}
use Rattle.outcomes.specs.Determined.{Determined}
use Rattle.outcomes.specs.Settles.{Written, Settles}

-- of one call that may be made, two outcomes that meet the contract
module _ (n : ℕ) (ps : List (ParamKind n)) (r : ResultKind n) (Pre : In n ps) (Post : Out n ps r) (settled : Determined n ps r Pre Post)
    (κs : Lfts n) (a : Dens κs ps) (may : Pre κs a) (x y : (res_t r κs).Denot) (v w : Lasts (ended_of n ps r) κs a)
    (p : Post κs a x (at_exit (ended_of n ps r) κs a v)) (q : Post κs a y (at_exit (ended_of n ps r) κs a w)) where
  -- their results are one
  pub one_result : x ≡ y
  one_result = (settled κs a may x y v w p q).0

  -- and all that was lent holds the same
  pub one_content : v ≡ w
  one_content = (settled κs a may x y v w p q).1

-- the same of a contract by its own clauses
module _ (T : Ended) (c : Written T) (settled : Settles T c) (M : Type 1) (𝓤 : Ura M) (𝓛 : Logic 𝓤)
    (mem : Memory → SProp 𝓤) (run : Routine → Fun 𝓤) (κs : Lfts T.signature.lifetimes) (a : Args T.signature κs)
    (g : (c M 𝓤 𝓛 mem run κs a).ghost) (x y : Res T.signature κs) (v w : Lasts T κs a) where
  -- that the call may be made, and may leave x with v, and y with w
  abbrev Either : SProp 𝓤
  Either =
      let k = c M 𝓤 𝓛 mem run κs a in
      conj 𝓤 (k.requires g) (conj 𝓤 (k.ensures g x (at_exit T κs a v)) (k.ensures g y (at_exit T κs a w)))

  -- entails that their results are one
  pub claims_one_result : ent 𝓤 Either (fact 𝓤 (x ≡ y))
  claims_one_result = via 𝓤 _ (settled M 𝓤 𝓛 mem run κs a g x y v w) (fact_mono 𝓤 _ _ (λ e. e.0))

  -- and that all that was lent holds the same
  pub claims_one_content : ent 𝓤 Either (fact 𝓤 (v ≡ w))
  claims_one_content = via 𝓤 _ (settled M 𝓤 𝓛 mem run κs a g x y v w) (fact_mono 𝓤 _ _ (λ e. e.1))
