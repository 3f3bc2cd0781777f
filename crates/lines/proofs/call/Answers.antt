-- `lines::call` meets its contract: the call that a frame asks for, or R9.
-- Assumes nothing.
use mathlib.Core.Path.{◌≡◌}
use native.Mathlib.Omega.{arith}
use Rattle.std.specs.Prelude.{None, Err}
use Rattle.rules.specs.declared.Refusal.TheVariants.{Unreadable}
use Rattle.rules.specs.Run.{step}
use Rattle.rules.specs.Results.{response_cap}
use Rattle.lines.proofs.Telling.{call_replies, unread_replies, front_size, arrival_bounded, take_bounded, command_spoken, arrival_spoken, take_spoken, drop_spoken, nothing_spoken}
use Rattle.lines.proofs.call.Goals as goal

pub returns-in_err-spoken : goal.returns-in_err-spoken
returns-in_err-spoken c = let none : c.read_call.result ≡ None = grind arith in
    let refused : c.from_residual.result ≡ Err Unreadable = grind arith in
    rw refused (unread_replies _ _ _ _ c.requires.0 (nothing_spoken _ _ c.read_call.ensures none))

pub slice_bounds-command_in-end-in-Command : goal.slice_bounds-command_in-end-in-Command
slice_bounds-command_in-end-in-Command c = front_size response_cap c.args.reply.now c.requires.1 (omega arith)

pub slice_bounds-arrival_in-count : goal.slice_bounds-arrival_in-count
slice_bounds-arrival_in-count c = omega (arith, arrival_bounded _ _ c.read_call.ensures c.in-Arrival.n (grind arith))

pub slice_bounds-arrival_in-start : goal.slice_bounds-arrival_in-start
slice_bounds-arrival_in-start c = omega (arith, arrival_bounded _ _ c.read_call.ensures c.in-Arrival.n (grind arith))

pub slice_bounds-taking_in-end : goal.slice_bounds-taking_in-end
slice_bounds-taking_in-end c = omega (arith, c.requires.1, take_bounded _ _ c.read_call.ensures c.in-Take.n c.in-Take.count (grind arith))

pub slice_bounds-taking_in-end-in-Take : goal.slice_bounds-taking_in-end-in-Take
slice_bounds-taking_in-end-in-Take c = front_size _ _ c.requires.1 (take_bounded _ _ c.read_call.ensures c.in-Take.n c.in-Take.count (grind arith))

pub returns-in-Command : goal.returns-in-Command
unfolding step
returns-in-Command c = call_replies _ _ c.requires.0 _ _ _ _ _ _ _ _ (command_spoken _ _ c.read_call.ensures c.args.reply.now c.requires.1 (grind arith)) c.command_in.ensures

pub returns-in-Arrival : goal.returns-in-Arrival
unfolding step
returns-in-Arrival c = call_replies _ _ c.requires.0 _ _ _ _ _ _ _ _ (arrival_spoken _ _ c.read_call.ensures c.args.reply.now c.requires.1 _ (grind arith)) c.arrival_in.ensures

pub returns-in-Take : goal.returns-in-Take
unfolding step
returns-in-Take c = call_replies _ _ c.requires.0 _ _ _ _ _ _ _ _ (take_spoken _ _ c.read_call.ensures c.args.reply.now c.requires.1 _ _ (grind arith)) c.taking_in.ensures

pub returns-in-Drop : goal.returns-in-Drop
unfolding step
returns-in-Drop c = call_replies _ _ c.requires.0 _ _ _ _ _ _ _ _ (drop_spoken _ _ c.read_call.ensures c.args.reply.now c.requires.1 _ (grind arith)) c.dropping_in.ensures
