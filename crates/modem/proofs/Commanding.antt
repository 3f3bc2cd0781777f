-- The command call: R1, R2, and then the frame.
-- Assumes nothing.
use Prim.Native.Nat.{ℕ, ◌-◌, ◌≤◌, ◌<◌}
use mathlib.Core.Path.{◌≡◌, refl, sym, ap, ◌∙◌}
use mathlib.Core.Bool.{true, false, not, ◌||◌}
use mathlib.Core.List.{List, [], ◌∷◌}
use native.Mathlib.Omega.{arith}
use lib.ListN.{length, drop, length-drop}
use lib.Seq.{take_all}
use lib.Dec.{ltb}
use borrow.Author.Tests.{lt-ltb, le-ltb}
use Rattle.rules.specs.declared.Refusal.TheVariants.{ShortBuffer, CommandSize}
use Rattle.rules.specs.Checks.{is_empty}
use Rattle.rules.specs.State.{State}
use Rattle.rules.specs.Frames.{framed}
use Rattle.rules.specs.Reading.{Reading, zeros, reading, read_objects}
use Rattle.rules.specs.Own.{reply, error}
use Rattle.rules.specs.Written.{response_bytes}
use Rattle.rules.specs.Command.{Answer, answered, refusal, meant_by, Terms, lending, command}
use Rattle.rules.proofs.Laws.{stop, skip}
use Rattle.octets.specs.Parts.{part}
use Rattle.command.specs.Requests.{FramedAt}
use Rattle.own.specs.Replies.{told}
use Rattle.modem.specs.Obeyed.{obeyed}

-- R2: the command is empty, or has more than 256 bytes
no_byte : (s : List ℕ) → length s < 1 → is_empty s || ltb 256 (length s) ≡ true
unfolding is_empty
no_byte [] h = refl
no_byte (b ∷ s) h = absurd (omega arith)

too_long : (s : List ℕ) → 256 < length s → is_empty s || ltb 256 (length s) ≡ true
unfolding is_empty
too_long [] h = refl
too_long (b ∷ s) h = lt-ltb 256 (length (b ∷ s)) h

well_sized : (s : List ℕ) → 1 ≤ length s → length s ≤ 256 → is_empty s || ltb 256 (length s) ≡ false
unfolding is_empty
well_sized [] h k = absurd (omega arith)
well_sized (b ∷ s) h k = le-ltb 256 (length (b ∷ s)) k

module _ (a : State) (buffer : ℕ) (s : List ℕ) where
  abbrev terms : Terms
  terms = lending buffer

  pub short_refused : buffer < 255 → command a terms s ≡ refusal a ShortBuffer
  unfolding command
  short_refused h = stop _ _ _ (lt-ltb buffer 255 h)

  pub empty_refused : 255 ≤ buffer → length s < 1 → command a terms s ≡ refusal a CommandSize
  unfolding command
  empty_refused g h = skip _ _ _ (le-ltb buffer 255 g) ∙ stop _ _ _ (no_byte s h)

  pub long_refused : 255 ≤ buffer → 256 < length s → command a terms s ≡ refusal a CommandSize
  unfolding command
  long_refused g h = skip _ _ _ (le-ltb buffer 255 g) ∙ stop _ _ _ (too_long s h)

  -- neither
  module _ (g : 255 ≤ buffer) (low : 1 ≤ length s) (high : length s ≤ 256) where
    read : command a terms s ≡ answered (meant_by a (reading a.profile s)).state (response_bytes (meant_by a (reading a.profile s)).response)
    unfolding command
    read = skip _ _ _ (le-ltb buffer 255 g) ∙ skip _ _ _ (well_sized s low high)

    abbrev meant : Reading → Answer
    meant r = answered (meant_by a r).state (response_bytes (meant_by a r).response)

    pub unframed : framed s ≡ false → command a terms s ≡ told zeros (reply a (error 0x32))
    unfolding reading meant_by
    unframed f = read ∙ ap meant (stop _ _ _ (ap not f))

    pub framed_obeyed : (start : ℕ) → FramedAt s start → command a terms s ≡ obeyed a (part start (length s) s)
    unfolding reading obeyed
    framed_obeyed start f =
        let rest = take_all (length s - start) (drop start s) (omega (arith, length-drop start s)) in
        read ∙ ap meant (skip _ _ _ (ap not f.is) ∙ ap (read_objects a.profile) (f.objects ∙ sym rest))
