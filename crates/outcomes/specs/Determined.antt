-- A contract settles the outcome: of one call that may be made, any two results and any two contents of what was lent that meet it are equal.
use Rattle.std.specs.Prelude.{ℕ, ◌≡◌, List}
use contract.Lifetimes.{Lfts}
use denote.Triple.Clauses.{Lasts, at_exit}
use borrow.Fn.Kinds.{ParamKind, ResultKind, Dens, In, Out, res_t, ended_of}

-- of what a function's contract asks of its arguments, and what it claims of these, the result and what stands behind each lent reference at exit
abbrev pub Determined : (n : ℕ) (ps : List (ParamKind n)) (r : ResultKind n) → In n ps → Out n ps r → Type 0
Determined n ps r Pre Post =
    (κs : Lfts n) (a : Dens κs ps) → Pre κs a → (x y : (res_t r κs).Denot) (v w : Lasts (ended_of n ps r) κs a) →
    Post κs a x (at_exit (ended_of n ps r) κs a v) → Post κs a y (at_exit (ended_of n ps r) κs a w) →
    (x ≡ y) × (v ≡ w)
