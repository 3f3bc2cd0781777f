-- `flow::Pending::gather` meets its contract: what stands before the line feed is found, and what fits of it stands behind what the line had.
-- Assumes nothing.
use Rattle.std.specs.Prelude.{◌≡◌, ◌+◌, option_map, take}
use Rattle.std.proofs.Common.{rules}
use mathlib.Core.Path.{ap, ◌∙◌}
use Rattle.flow.proofs.Gathering.{found_before, found_taken, kept_size_lem, kept_pasted}
use Rattle.flow.proofs.Pending.gather.Goals as goal

pub returns : goal.returns
returns c =
    let line = c.args.self.now in
    let s = c.args.chunk.now in
    let part = ap (λ k. take k s) c.unwrap_or.ensures ∙ found_before s _ c.line_feed-feed.ensures in
    let taken : c.map.result ≡ option_map (λ n. n + 1) c.line_feed-feed.result = search rules in
    record {
      kept = kept_pasted line.bytes line.len s _ _ _ part c.min-fitting.ensures c.copy_from_slice.ensures.after;
      len = ap (λ n. line.len + n) (kept_size_lem line.bytes line.len s _ _ _ part c.min-fitting.ensures c.copy_from_slice.ensures.after);
      taken = taken ∙ found_taken s _ c.line_feed-feed.ensures;
    }
