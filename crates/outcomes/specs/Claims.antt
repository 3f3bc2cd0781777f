-- What a contract gives, by its own clauses, whoever proves its function: of a call that may be made, all that it may leave has a property.
use seplogic.Ra.Ura.{Ura}
use base.Logic.{SProp, ent}
use prog.Memory.{Memory}
use prog.Routine.{Routine}
use types.Logic.{Logic}
use contract.Lifetimes.{Lfts}
use contract.Monad.{Fun, conj, fact}
use denote.Triple.Entry.{Args, Res}
use denote.Triple.Clauses.{Ended, ClausesAt, Lasts, at_exit}
use Rattle.outcomes.specs.Settles.{Written}

-- a property of a call: of its arguments, its result and what stands behind each lent reference at exit
abbrev pub Property : Ended → Type 1
Property T = (κs : Lfts T.signature.lifetimes) (a : Args T.signature κs) → Res T.signature κs → Lasts T κs a → Type 0

-- of the clauses at one call
abbrev pub ClaimsAt :
    {M : Type 1} (𝓤 : Ura M) (T : Ended) (κs : Lfts T.signature.lifetimes) (a : Args T.signature κs) → ClausesAt 𝓤 T κs → Property T → Type 1
ClaimsAt 𝓤 T κs a c Q =
    (g : c.ghost) (x : Res T.signature κs) (v : Lasts T κs a) →
    ent 𝓤 (conj 𝓤 (c.requires g) (c.ensures g x (at_exit T κs a v))) (fact 𝓤 (Q κs a x v))

-- of a function's clauses, at every call
abbrev pub Claims : (T : Ended) → Written T → Property T → Type 2
Claims T c Q =
    (M : Type 1) (𝓤 : Ura M) (𝓛 : Logic 𝓤) (mem : Memory → SProp 𝓤) (run : Routine → Fun 𝓤) →
    (κs : Lfts T.signature.lifetimes) (a : Args T.signature κs) → ClaimsAt 𝓤 T κs a (c M 𝓤 𝓛 mem run κs a) Q
