-- The same of a contract by its own clauses, whoever proves its function: of one call that may be made, any two results and any two contents of what was lent that meet it are equal.
use Rattle.std.specs.Prelude.{◌≡◌}
use seplogic.Ra.Ura.{Ura}
use base.Logic.{SProp, ent}
use prog.Memory.{Memory}
use prog.Routine.{Routine}
use types.Logic.{Logic}
use contract.Lifetimes.{Lfts}
use contract.Monad.{Fun, conj, fact}
use denote.Triple.Entry.{Args, Res}
use denote.Triple.Clauses.{Ended, Clauses, ClausesAt, Lasts, at_exit}

-- the clauses of a function, in every logic that they are written in
abbrev pub Written : Ended → Type 2
Written T = (M : Type 1) (𝓤 : Ura M) (𝓛 : Logic 𝓤) → (Memory → SProp 𝓤) → (Routine → Fun 𝓤) → Clauses 𝓤 T

-- of the clauses at one call: that it may be made, and that x with v, and y with w, are what it may leave, entails that they are equal
abbrev pub SettlesAt :
    {M : Type 1} (𝓤 : Ura M) (T : Ended) (κs : Lfts T.signature.lifetimes) → Args T.signature κs → ClausesAt 𝓤 T κs → Type 1
SettlesAt 𝓤 T κs a c =
    (g : c.ghost) (x y : Res T.signature κs) (v w : Lasts T κs a) →
    ent 𝓤 (conj 𝓤 (c.requires g) (conj 𝓤 (c.ensures g x (at_exit T κs a v)) (c.ensures g y (at_exit T κs a w)))) (fact 𝓤 ((x ≡ y) × (v ≡ w)))

-- of a function's clauses, at every call
abbrev pub Settles : (T : Ended) → Written T → Type 2
Settles T c =
    (M : Type 1) (𝓤 : Ura M) (𝓛 : Logic 𝓤) (mem : Memory → SProp 𝓤) (run : Routine → Fun 𝓤) →
    (κs : Lfts T.signature.lifetimes) (a : Args T.signature κs) → SettlesAt 𝓤 T κs a (c M 𝓤 𝓛 mem run κs a)
