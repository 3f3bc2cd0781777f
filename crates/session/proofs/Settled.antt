-- Each contract of the session settles its outcome.
-- Assumes nothing.
use mathlib.Core.Path.{refl, sym, ◌∙◌}
use Rattle.outcomes.specs.Determined.{Determined}
use Rattle.session.proofs.Alike.{session_alike}
use Rattle.session.proofs.entry.Kinds as entry-kinds
use Rattle.session.proofs.entry.Reads as entry-reads
use Rattle.session.proofs.put_entry.Kinds as put-entry-kinds
use Rattle.session.proofs.put_entry.Reads as put-entry-reads
use Rattle.session.proofs.base.Kinds as base-kinds
use Rattle.session.proofs.base.Reads as base-reads
use Rattle.session.proofs.start_of.Kinds as start-of-kinds
use Rattle.session.proofs.start_of.Reads as start-of-reads
use Rattle.session.proofs.Session.is_crowded.Kinds as is-crowded-kinds
use Rattle.session.proofs.Session.is_crowded.Reads as is-crowded-reads
use Rattle.session.proofs.Session.at_once.Kinds as at-once-kinds
use Rattle.session.proofs.Session.at_once.Reads as at-once-reads
use Rattle.session.proofs.free_cells.Kinds as free-cells-kinds
use Rattle.session.proofs.free_cells.Reads as free-cells-reads
use Rattle.session.proofs.Session.append.Kinds as append-kinds
use Rattle.session.proofs.Session.append.Reads as append-reads
use Rattle.session.proofs.Session.remove.Kinds as remove-kinds
use Rattle.session.proofs.Session.remove.Reads as remove-reads
use Rattle.session.proofs.Session.close_channel.Kinds as close-channel-kinds
use Rattle.session.proofs.Session.close_channel.Reads as close-channel-reads
use Rattle.session.proofs.Session.open_channel.Kinds as open-channel-kinds
use Rattle.session.proofs.Session.open_channel.Reads as open-channel-reads
use Rattle.session.proofs.Channel.is_stream.Kinds as is-stream-kinds
use Rattle.session.proofs.Channel.is_stream.Reads as is-stream-reads
use Rattle.session.proofs.link_of.Kinds as link-of-kinds
use Rattle.session.proofs.link_of.Reads as link-of-reads
use Rattle.session.proofs.set_events.Kinds as set-events-kinds
use Rattle.session.proofs.set_events.Reads as set-events-reads
use Rattle.session.proofs.capped.Kinds as capped-kinds
use Rattle.session.proofs.capped.Reads as capped-reads
use Rattle.session.proofs.Session.restart.Kinds as restart-kinds
use Rattle.session.proofs.Session.restart.Reads as restart-reads
use Rattle.session.proofs.start_ledger.Kinds as start-ledger-kinds
use Rattle.session.proofs.start_ledger.Reads as start-ledger-reads
use Rattle.session.proofs.start.Kinds as start-kinds
use Rattle.session.proofs.start.Reads as start-reads

pub entry_settled : Determined 1 entry-kinds.ps entry-kinds.r entry-reads.Pre entry-reads.Post
entry_settled κs a _ x y v w p q = (p ∙ sym q, refl)

pub put_entry_settled : Determined 1 put-entry-kinds.ps put-entry-kinds.r put-entry-reads.Pre put-entry-reads.Post
put_entry_settled κs a _ x y v w p q = (refl, λ i. ((p ∙ sym q) i, v.1))

pub base_settled : Determined 1 base-kinds.ps base-kinds.r base-reads.Pre base-reads.Post
base_settled κs a _ x y v w p q = (p.0 ∙ sym q.0, refl)

pub start_of_settled : Determined 1 start-of-kinds.ps start-of-kinds.r start-of-reads.Pre start-of-reads.Post
start_of_settled κs a _ x y v w p q = (p ∙ sym q, refl)

pub free_cells_settled : Determined 1 free-cells-kinds.ps free-cells-kinds.r free-cells-reads.Pre free-cells-reads.Post
free_cells_settled κs a _ x y v w p q = (p ∙ sym q, refl)

pub is_crowded_settled : Determined 1 is-crowded-kinds.ps is-crowded-kinds.r is-crowded-reads.Pre is-crowded-reads.Post
is_crowded_settled κs a _ x y v w p q = (p ∙ sym q, refl)

pub at_once_settled : Determined 1 at-once-kinds.ps at-once-kinds.r at-once-reads.Pre at-once-reads.Post
at_once_settled κs a _ x y v w p q = (p ∙ sym q, refl)

pub append_settled : Determined 2 append-kinds.ps append-kinds.r append-reads.Pre append-reads.Post
append_settled κs a _ x y v w p q = (refl, λ i. (session_alike v.0 w.0 p q i, v.1))

pub remove_settled : Determined 1 remove-kinds.ps remove-kinds.r remove-reads.Pre remove-reads.Post
remove_settled κs a _ x y v w p q = (refl, λ i. (session_alike v.0 w.0 p q i, v.1))

pub close_channel_settled : Determined 1 close-channel-kinds.ps close-channel-kinds.r close-channel-reads.Pre close-channel-reads.Post
close_channel_settled κs a _ x y v w p q = (refl, λ i. (session_alike v.0 w.0 p q i, v.1))

pub open_channel_settled : Determined 1 open-channel-kinds.ps open-channel-kinds.r open-channel-reads.Pre open-channel-reads.Post
open_channel_settled κs a _ x y v w p q = (refl, λ i. (session_alike v.0 w.0 p q i, v.1))

pub is_stream_settled : Determined 0 is-stream-kinds.ps is-stream-kinds.r is-stream-reads.Pre is-stream-reads.Post
is_stream_settled κs a _ x y v w p q = (p ∙ sym q, refl)

pub link_of_settled : Determined 0 link-of-kinds.ps link-of-kinds.r link-of-reads.Pre link-of-reads.Post
link_of_settled κs a _ x y v w p q = (p ∙ sym q, refl)

pub set_events_settled : Determined 1 set-events-kinds.ps set-events-kinds.r set-events-reads.Pre set-events-reads.Post
set_events_settled κs a _ x y v w p q = (refl, λ i. ((p ∙ sym q) i, v.1))

pub capped_settled : Determined 0 capped-kinds.ps capped-kinds.r capped-reads.Pre capped-reads.Post
capped_settled κs a _ x y v w p q = (p ∙ sym q, refl)

pub start_ledger_settled : Determined 2 start-ledger-kinds.ps start-ledger-kinds.r start-ledger-reads.Pre start-ledger-reads.Post
start_ledger_settled κs a _ x y v w p q = (refl, λ i. ((p ∙ sym q) i, v.1))

pub restart_settled : Determined 2 restart-kinds.ps restart-kinds.r restart-reads.Pre restart-reads.Post
restart_settled κs a _ x y v w p q = (refl, λ i. (session_alike v.0 w.0 p.0 q.0 i, v.1))

pub start_settled : Determined 1 start-kinds.ps start-kinds.r start-reads.Pre start-reads.Post
start_settled κs a _ x y v w p q = (session_alike x y p.0 q.0, refl)
