-- What a call hands back: the session, how it ended, and the lent buffer.
use Rattle.std.specs.Prelude.{ℕ, ◌≡◌, List}
use Rattle.rules.specs.Command.{Answer, ended_of, written_by}
use Rattle.rules.specs.Words.{Ended}
use Rattle.octets.specs.Parts.{overlaid}
use Rattle.session.specs.Picture.{Shows, GoodIn}

-- the call is the answer r: the record's two arrays are its picture, and good again; it ended so; each lent byte is told
pub record Answers (r : Answer) (t p : List ℕ) (e : Ended) (before after : List ℕ) : Type 0 where
  pub shows : Shows r.state t p
  pub good : GoodIn t p
  pub ended : e ≡ ended_of r.outcome
  pub lent : after ≡ overlaid (written_by r.outcome) before
