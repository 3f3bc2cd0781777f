-- `csim::kind_of_line` meets its contract: the first whose word and blank it begins with.
-- Assumes nothing.
use mathlib.Core.List.{[], ◌∷◌}
use Rattle.std.proofs.Common.{rules, Bool}
use Rattle.std.proofs.lemmas.Iterator.{YieldsList-from_slice}
use Rattle.std.proofs.lemmas.Iterator.Consumers.{YieldsList-at, YieldsList-from_copied}
use Rattle.std.proofs.lemmas.Iterator.Search.{find_from_yields_List}
use Rattle.csim.specs.Kinds.{lead_of, leads}
use Rattle.csim.specs.declared.Kind.{Kind}
use Rattle.csim.specs.declared.Kind.TheVariants.{Profile, Response, Envelope}
use Rattle.csim.proofs.Scans.{leads_starts}
use Rattle.csim.proofs.ByKind.{found_first}
use Rattle.csim.proofs.kind_of_line.Goals as goal

pub returns : goal.returns
returns c =
    let t : Kind → Bool = λ k. leads (lead_of k) c.args.line.now in
    found_first t _
    (find_from_yields_List t _ _ c.find.result c.find.ensures.ran
    (YieldsList-from_copied (YieldsList-at c.copied.ensures.source (YieldsList-from_slice (Profile ∷ Response ∷ Envelope ∷ []) cc)))
    (λ x b q k. search (rules, leads_starts)))
