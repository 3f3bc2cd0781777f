-- Each contract of the responses settles its outcome.
-- Assumes nothing.
use Rattle.outcomes.specs.Determined.{Determined}
use Rattle.responses.proofs.Alike.{count_alike, out_alike}
use Rattle.responses.proofs.tell_result.Kinds as tell-result-kinds
use Rattle.responses.proofs.tell_result.Reads as tell-result-reads
use Rattle.responses.proofs.tell_problem.Kinds as tell-problem-kinds
use Rattle.responses.proofs.tell_problem.Reads as tell-problem-reads
use Rattle.responses.proofs.tell_sent.Kinds as tell-sent-kinds
use Rattle.responses.proofs.tell_sent.Reads as tell-sent-reads
use Rattle.responses.proofs.tell_started.Kinds as tell-started-kinds
use Rattle.responses.proofs.tell_started.Reads as tell-started-reads
use Rattle.responses.proofs.tell_left.Kinds as tell-left-kinds
use Rattle.responses.proofs.tell_left.Reads as tell-left-reads
use Rattle.responses.proofs.tell_received.Kinds as tell-received-kinds
use Rattle.responses.proofs.tell_received.Reads as tell-received-reads
use Rattle.responses.proofs.tell_opened.Kinds as tell-opened-kinds
use Rattle.responses.proofs.tell_opened.Reads as tell-opened-reads
use Rattle.responses.proofs.tell_statuses.Kinds as tell-statuses-kinds
use Rattle.responses.proofs.tell_statuses.Reads as tell-statuses-reads

pub tell_result_settled : Determined 1 tell-result-kinds.ps tell-result-kinds.r tell-result-reads.Pre tell-result-reads.Post
tell_result_settled κs a _ x y v w p q = (count_alike p q, λ i. (out_alike p q i, v.1))

pub tell_problem_settled : Determined 1 tell-problem-kinds.ps tell-problem-kinds.r tell-problem-reads.Pre tell-problem-reads.Post
tell_problem_settled κs a _ x y v w p q = (count_alike p q, λ i. (out_alike p q i, v.1))

pub tell_sent_settled : Determined 1 tell-sent-kinds.ps tell-sent-kinds.r tell-sent-reads.Pre tell-sent-reads.Post
tell_sent_settled κs a _ x y v w p q = (count_alike p q, λ i. (out_alike p q i, v.1))

pub tell_started_settled : Determined 1 tell-started-kinds.ps tell-started-kinds.r tell-started-reads.Pre tell-started-reads.Post
tell_started_settled κs a _ x y v w p q = (count_alike p q, λ i. (out_alike p q i, v.1))

pub tell_left_settled : Determined 1 tell-left-kinds.ps tell-left-kinds.r tell-left-reads.Pre tell-left-reads.Post
tell_left_settled κs a _ x y v w p q = (count_alike p q, λ i. (out_alike p q i, v.1))

pub tell_received_settled : Determined 2 tell-received-kinds.ps tell-received-kinds.r tell-received-reads.Pre tell-received-reads.Post
tell_received_settled κs a _ x y v w p q = (count_alike p q, λ i. (out_alike p q i, v.1))

pub tell_opened_settled : Determined 2 tell-opened-kinds.ps tell-opened-kinds.r tell-opened-reads.Pre tell-opened-reads.Post
tell_opened_settled κs a _ x y v w p q = (count_alike p q, λ i. (out_alike p q i, v.1))

pub tell_statuses_settled : Determined 2 tell-statuses-kinds.ps tell-statuses-kinds.r tell-statuses-reads.Pre tell-statuses-reads.Post
tell_statuses_settled κs a _ x y v w p q = (count_alike p q, λ i. (out_alike p q i, v.1))
