-- `opening::open` meets its contract: the law of each way out, at what it calls.
-- Assumes nothing.
use native.Mathlib.Omega.{arith}
use Rattle.session.proofs.Facts.{good_table}
use Rattle.opening.proofs.Checks.{bearer_there, bearer_few, few_channels, numbered, unopened, grant_fits, unserved, uncarried, sizeless, numberless, cellless, open_done}
use Rattle.opening.proofs.open.Goals as goal

pub bounds-bearer-0 : goal.bounds-bearer-0
bounds-bearer-0 c = bearer_there c.args.bearer.now c.requires.2

pub serves-requires : goal.serves-requires
serves-requires c = let l = good_table _ _ c.requires.0 in omega arith

pub returns-then-not-serves : goal.returns-then-not-serves
returns-then-not-serves c = unserved _ c.args.session.now.pool c.requires.0 c.args.d c.args.bearer.now c.args.size c.args.protocol c.args.ignored _ c.serves.ensures _ _ _ (mathlib.Core.Path.ap mathlib.Core.Bool.not c.if-not-serves.true) c.tell_result.ensures

pub returns-then-not-is_served : goal.returns-then-not-is_served
returns-then-not-is_served c = uncarried _ c.args.session.now.pool c.requires.0 c.args.d c.args.bearer.now c.args.size c.args.protocol c.args.ignored _ c.serves.ensures _ _ _ (mathlib.Core.Path.ap mathlib.Core.Bool.not c.if-not-serves.false) _ c.is_served.ensures (mathlib.Core.Path.ap mathlib.Core.Bool.not c.if-not-is_served.true) c.tell_problem.ensures

pub returns-then-size-lt1 : goal.returns-then-size-lt1
returns-then-size-lt1 c = sizeless _ c.args.session.now.pool c.requires.0 c.args.d c.args.bearer.now c.args.size c.args.protocol c.args.ignored _ c.serves.ensures _ _ _ (mathlib.Core.Path.ap mathlib.Core.Bool.not c.if-not-serves.false) _ c.is_served.ensures (mathlib.Core.Path.ap mathlib.Core.Bool.not c.if-not-is_served.false) c.if-size-lt1.true c.tell_problem-then-size-lt1.ensures

pub channels_of-n-requires : goal.channels_of-n-requires
channels_of-n-requires c = let l = good_table _ _ c.requires.0 in omega arith

pub open_before-k-requires : goal.open_before-k-requires
open_before-k-requires c = (few_channels c.args.session.now.ledger _ c.channels_of-n.ensures)

pub returns-then-k-n : goal.returns-then-k-n
returns-then-k-n c = numberless _ c.args.session.now.pool c.requires.0 c.args.d c.args.bearer.now c.args.size c.args.protocol c.args.ignored _ c.serves.ensures _ _ _ (mathlib.Core.Path.ap mathlib.Core.Bool.not c.if-not-serves.false) _ c.is_served.ensures (mathlib.Core.Path.ap mathlib.Core.Bool.not c.if-not-is_served.false) c.if-size-lt1.false _ _ c.channels_of-n.ensures c.open_before-k.ensures c.if-k-n.true c.tell_problem-then-k-n.ensures

pub returns-then-free-lt2 : goal.returns-then-free-lt2
returns-then-free-lt2 c = cellless _ c.args.session.now.pool c.requires.0 c.args.d c.args.bearer.now c.args.size c.args.protocol c.args.ignored _ c.serves.ensures _ _ _ (mathlib.Core.Path.ap mathlib.Core.Bool.not c.if-not-serves.false) _ c.is_served.ensures (mathlib.Core.Path.ap mathlib.Core.Bool.not c.if-not-is_served.false) c.if-size-lt1.false _ _ c.channels_of-n.ensures c.open_before-k.ensures c.if-k-n.false _ c.free_cells-free.ensures c.if-free-lt2.true c.tell_problem-then-free-lt2.ensures

pub overflow_add-number : goal.overflow_add-number
overflow_add-number c = let o = numbered _ _ c.requires.0 _ _ c.channels_of-n.ensures c.open_before-k.ensures c.if-k-n.false in
    omega (arith, o.high)

pub overflow_cast-number : goal.overflow_cast-number
overflow_cast-number c = let o = numbered _ _ c.requires.0 _ _ c.channels_of-n.ensures c.open_before-k.ensures c.if-k-n.false in
    omega (arith, o.high)

pub open_channel-requires : goal.open_channel-requires
open_channel-requires c = record { numbered = numbered _ _ c.requires.0 _ _ c.channels_of-n.ensures c.open_before-k.ensures c.if-k-n.false; n_value = (unopened _ _ c.requires.0 _ _ c.channels_of-n.ensures c.open_before-k.ensures c.if-k-n.false, grant_fits _ _ c.requires.0 _ c.free_cells-free.ensures c.args.size _ c.grant-grant.ensures) }

pub tell_opened-requires : goal.tell_opened-requires
tell_opened-requires c = let o = numbered _ _ c.requires.0 _ _ c.channels_of-n.ensures c.open_before-k.ensures c.if-k-n.false in
    let l = bearer_few c.args.session.now.ledger c.args.bearer.now _ c.serves.ensures (mathlib.Core.Path.ap mathlib.Core.Bool.not c.if-not-serves.false) c.requires.2 in
    (o.high, omega arith, omega (arith, c.requires.1), bearer_there c.args.bearer.now c.requires.2)

pub returns : goal.returns
returns c = open_done _ c.args.session.now.pool c.requires.0 c.args.d c.args.bearer.now c.args.size c.args.protocol c.args.ignored _ c.serves.ensures _ _ _ (mathlib.Core.Path.ap mathlib.Core.Bool.not c.if-not-serves.false) _ c.is_served.ensures (mathlib.Core.Path.ap mathlib.Core.Bool.not c.if-not-is_served.false) c.if-size-lt1.false _ _ c.channels_of-n.ensures c.open_before-k.ensures c.if-k-n.false _ c.free_cells-free.ensures _ _ _ c.grant-grant.ensures c.link_by-link.ensures c.short_or-result.ensures _ _ _
    c.if-free-lt2.false c.carried_by-carries.ensures c.open_channel.ensures c.tell_opened.ensures
