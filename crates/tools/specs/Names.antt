-- The names of the tools.
use Rattle.std.specs.Prelude.{ℕ, Option, Some, None, List, [], ◌∷◌}
use Rattle.rules.specs.Checks.{◌⇒◌else◌, same}
use Rattle.tools.specs.declared.Tool.{Tool}
use Rattle.tools.specs.declared.Tool.TheVariants.{Lines, Calls, Bench, Details, Fetch, Mend, CsimImport, CsimExport, AlphaRead, AlphaWrite}

-- "lines", "calls", "bench", "details", "fetch", "mend", "csim-import", "csim-export", "alpha-read", "alpha-write"
abbrev pub lines_name : List ℕ
lines_name = 108 ∷ 105 ∷ 110 ∷ 101 ∷ 115 ∷ []

abbrev pub calls_name : List ℕ
calls_name = 99 ∷ 97 ∷ 108 ∷ 108 ∷ 115 ∷ []

abbrev pub bench_name : List ℕ
bench_name = 98 ∷ 101 ∷ 110 ∷ 99 ∷ 104 ∷ []

abbrev pub details_name : List ℕ
details_name = 100 ∷ 101 ∷ 116 ∷ 97 ∷ 105 ∷ 108 ∷ 115 ∷ []

abbrev pub fetch_name : List ℕ
fetch_name = 102 ∷ 101 ∷ 116 ∷ 99 ∷ 104 ∷ []

abbrev pub mend_name : List ℕ
mend_name = 109 ∷ 101 ∷ 110 ∷ 100 ∷ []

abbrev pub import_name : List ℕ
import_name = 99 ∷ 115 ∷ 105 ∷ 109 ∷ 45 ∷ 105 ∷ 109 ∷ 112 ∷ 111 ∷ 114 ∷ 116 ∷ []

abbrev pub export_name : List ℕ
export_name = 99 ∷ 115 ∷ 105 ∷ 109 ∷ 45 ∷ 101 ∷ 120 ∷ 112 ∷ 111 ∷ 114 ∷ 116 ∷ []

abbrev pub alpha_read_name : List ℕ
alpha_read_name = 97 ∷ 108 ∷ 112 ∷ 104 ∷ 97 ∷ 45 ∷ 114 ∷ 101 ∷ 97 ∷ 100 ∷ []

abbrev pub alpha_write_name : List ℕ
alpha_write_name = 97 ∷ 108 ∷ 112 ∷ 104 ∷ 97 ∷ 45 ∷ 119 ∷ 114 ∷ 105 ∷ 116 ∷ 101 ∷ []

-- the tool between our lines and those of others that a word names
unfoldable pub exchange_named : List ℕ → Option Tool
exchange_named w =
    same w import_name ⇒ Some CsimImport else
    same w export_name ⇒ Some CsimExport else
    same w alpha_read_name ⇒ Some AlphaRead else
    same w alpha_write_name ⇒ Some AlphaWrite else
    None

-- the tool that a word names
unfoldable pub tool_named : List ℕ → Option Tool
tool_named w =
    same w lines_name ⇒ Some Lines else
    same w calls_name ⇒ Some Calls else
    same w bench_name ⇒ Some Bench else
    same w details_name ⇒ Some Details else
    same w fetch_name ⇒ Some Fetch else
    same w mend_name ⇒ Some Mend else
    exchange_named w
