-- Where what a contract asks or claims is a plain fact, the clauses entail what follows from the facts; and what it gives that a contract claims something of its calls.
-- Assumes nothing.
use seplogic.Ra.Ura.{Ura}
use base.Logic.{SProp, ent, emp, via}
use prog.Memory.{Memory}
use prog.Routine.{Routine}
use types.Logic.{Logic}
use contract.Lifetimes.{Lfts}
use contract.Monad.{Fun, conj, conj_r, fact, fact_mono, guard-conj}
use denote.Triple.Entry.{Args, Res}
use denote.Triple.Clauses.{Ended, Lasts, at_exit}
use Rattle.outcomes.specs.Settles.{Written}
use Rattle.outcomes.specs.Claims.{Property, Claims}

module _ {M : Type 1} (𝓤 : Ura M) where
  -- of two facts, what follows from both
  pub from_claim : (φ ψ χ : Type 0) → (φ → ψ → χ) → ent 𝓤 (conj 𝓤 (fact 𝓤 φ) (fact 𝓤 ψ)) (fact 𝓤 χ)
  from_claim φ ψ χ h = guard-conj 𝓤 φ (emp 𝓤) (fact 𝓤 ψ) (λ p. via 𝓤 (fact 𝓤 ψ) (conj_r 𝓤 (emp 𝓤) (fact 𝓤 ψ)) (fact_mono 𝓤 ψ χ (h p)))

  -- of a fact beside anything, what follows from the fact
  pub from_last : (P : SProp 𝓤) (φ χ : Type 0) → (φ → χ) → ent 𝓤 (conj 𝓤 P (fact 𝓤 φ)) (fact 𝓤 χ)
  from_last P φ χ h = via 𝓤 (fact 𝓤 φ) (conj_r 𝓤 P (fact 𝓤 φ)) (fact_mono 𝓤 φ χ h)

  -- of two facts beside anything, what follows from both
  pub from_claims : (P : SProp 𝓤) (φ ψ χ : Type 0) → (φ → ψ → χ) → ent 𝓤 (conj 𝓤 P (conj 𝓤 (fact 𝓤 φ) (fact 𝓤 ψ))) (fact 𝓤 χ)
  from_claims P φ ψ χ h = via 𝓤 (conj 𝓤 (fact 𝓤 φ) (fact 𝓤 ψ)) (conj_r 𝓤 P (conj 𝓤 (fact 𝓤 φ) (fact 𝓤 ψ))) (from_claim φ ψ χ h)

-- what it gives that a contract claims a property: that the call may be made, and what it may leave, entails the property
module _ (T : Ended) (c : Written T) (Q : Property T) (claims : Claims T c Q) (M : Type 1) (𝓤 : Ura M) (𝓛 : Logic 𝓤)
    (mem : Memory → SProp 𝓤) (run : Routine → Fun 𝓤) (κs : Lfts T.signature.lifetimes) (a : Args T.signature κs) where
  pub claimed :
      (g : (c M 𝓤 𝓛 mem run κs a).ghost) (x : Res T.signature κs) (v : Lasts T κs a) →
      ent 𝓤 (conj 𝓤 ((c M 𝓤 𝓛 mem run κs a).requires g) ((c M 𝓤 𝓛 mem run κs a).ensures g x (at_exit T κs a v))) (fact 𝓤 (Q κs a x v))
  claimed g x v = claims M 𝓤 𝓛 mem run κs a g x v
