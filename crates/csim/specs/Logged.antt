-- A line that has the shape of a record, part by part.
use Rattle.std.specs.Prelude.{ℕ, ◌<◌, ◌≡◌, Bool, not, ◌&&◌, false, List, [], ◌∷◌, ◌++◌, length, eqb, leb}
use Rattle.std.proofs.Math.Option.{some}
use Rattle.rules.specs.Lines.{bytes_of}
use Rattle.csim.specs.declared.Kind.{Kind}
use Rattle.csim.specs.Kinds.{header_of}
use Rattle.csim.specs.Records.{cleaned, opening, quoting, count_is}
use Rattle.csim.specs.Proper.{Proper}

-- no blank and no small letter
unfoldable pub is_plain : ℕ → Bool
is_plain c = not (eqb c 32) && not (leb 97 c && leb c 122)

-- a count without a zero in front, and between the quotes a header of the three, P3 and data
pub record Logged (l : List ℕ) : Type 0 where
  pub kind : Kind
  pub count : List ℕ
  pub quoted : List ℕ
  pub stated : ℕ
  pub bytes : List ℕ
  pub text : cleaned l ≡ opening ++ (count ++ (quoting ++ (quoted ++ 34 ∷ [])))
  pub proper : Proper count
  pub frame : bytes_of quoted ≡ some (header_of kind ++ stated ∷ bytes)
  pub data_there : 0 < length bytes

-- the count is that of the digits, and P3 that of the data
unfoldable pub agrees : (l : List ℕ) → Logged l → Bool
agrees l g = count_is g.count (length g.quoted) && eqb g.stated (length g.bytes)

-- the shape is there, but the counts are not
pub record Miscounted (l : List ℕ) : Type 0 where
  pub logged : Logged l
  pub wrong : agrees l logged ≡ false
