-- The tool `Lines` prints what document 01's program says of the lines of its input.
-- Assumes nothing.
use Prim.Native.Nat.{ℕ}
use mathlib.Core.Path.{◌≡◌, refl, sym, ap, ◌∙◌}
use mathlib.Core.Bool.{Bool, true, false}
use mathlib.Core.List.{List, [], ◌∷◌, ◌++◌}
use mathlib.Core.Option.{Option, none, some}
use native.Mathlib.Omega.{arith}
use lib.ListN.{length, take, length-take}
use lib.Seq.{take_all}
use lib.Dec.{leb}
use borrow.Author.Tests.{leb-true, leb-false, lt-ltb}
use Rattle.rules.specs.Checks.{◌⇒◌else◌}
use Rattle.rules.specs.declared.Refusal.TheVariants.{Unreadable}
use Rattle.rules.specs.State.{State, start}
use Rattle.rules.specs.Command.{refused}
use Rattle.rules.specs.Lines.{printed, frame_of, call_in, perform, line_step, lines_from, profile_then, program}
use Rattle.rules.specs.Input.{lines_of, output_of, line_bytes, begins, goes, line_ends}
use Rattle.rules.proofs.Laws.{stop}
use Rattle.flow.specs.Flow.{kept_size, prints, said_of}
use Rattle.flow.proofs.Flows as flow
use Rattle.tools.specs.declared.Tool.TheVariants.{Lines}
use Rattle.tools.specs.Tools.{Kept, first, ends}

-- of a line that is too long, what is kept tells it
frame_kept : (l : List ℕ) → frame_of (take kept_size l) ≡ frame_of l
unfolding frame_of
frame_kept l = by (leb (length l) kept_size) refl
  where
    by : (b : Bool) → leb (length l) kept_size ≡ b → frame_of (take kept_size l) ≡ frame_of l
    by true e = ap frame_of (take_all kept_size l (leb-true (length l) kept_size e))
    by false e =
        let h = leb-false (length l) kept_size e in
        let k = length-take kept_size l in
        stop _ _ _ (lt-ltb 3200 (length (take kept_size l)) (omega arith)) ∙ sym (stop _ _ _ (lt-ltb 3200 (length l) (omega arith)))

abbrev going : State → Kept
going a = record { begun = true; state = a; gathered = [] }

lines_after : (a : State) (ls : List (List ℕ)) → said_of (ends Lines) (going a) ls ≡ output_of (lines_from a ls)
unfolding said_of ends line_ends goes line_step lines_from output_of ◌⇒◌else◌
lines_after a [] = refl
lines_after a (l ∷ ls) =
    let e : line_step a (take kept_size l) ≡ line_step a l = ap (λ (o : Option (List ℕ)). perform a (call_in o)) (frame_kept l) in
    (λ i. line_bytes (e i).line ++ said_of (ends Lines) (going (e i).state) ls)
    ∙ ap (λ (s : List ℕ). line_bytes (line_step a l).line ++ s) (lines_after (line_step a l).state ls)

lines_begun :
    (ls : List (List ℕ)) (o : Option (List ℕ)) → (begins o).out ++ said_of (ends Lines) (going (begins o).kept) ls ≡ output_of (profile_then o ls)
unfolding begins profile_then output_of
lines_begun ls none = ap (λ (s : List ℕ). line_bytes (printed (refused Unreadable)) ++ s) (lines_after (start []) ls)
lines_begun ls (some p) = lines_after (start p) ls

lines_all : (ls : List (List ℕ)) → said_of (ends Lines) first ls ≡ output_of (program ls)
unfolding said_of ends line_ends program output_of ◌⇒◌else◌
lines_all [] = refl
lines_all (l ∷ ls) =
    ap (λ (o : Option (List ℕ)). (begins o).out ++ said_of (ends Lines) (going (begins o).kept) ls) (frame_kept l) ∙ lines_begun ls (frame_of l)

-- what is printed is what the program says of the lines
pub program_printed : (s : List ℕ) → prints (ends Lines) first s ≡ output_of (program (lines_of s))
program_printed s = flow.lines_said (ends Lines) first s ∙ lines_all (lines_of s)
