-- What the objects of a command come to.
use Rattle.std.specs.Prelude.{ℕ, List}
use Rattle.rules.specs.State.{State}
use Rattle.rules.specs.Reading.{read_objects}
use Rattle.rules.specs.Written.{response_bytes}
use Rattle.rules.specs.Command.{Answer, answered, meant_by}

-- the state after the command, and the bytes of its response
unfoldable pub obeyed : State → List ℕ → Answer
obeyed a s =
    let m = meant_by a (read_objects a.profile s) in
    answered m.state (response_bytes m.response)
