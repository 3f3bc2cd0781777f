-- `alpha::is_plain` meets its contract: the fold joins the tests.
-- Assumes nothing.
use Rattle.std.proofs.Common.{rules, ◌≡◌, ◌&&◌, true, refl, ap, ◌∙◌}
use Rattle.rules.specs.Checks.{every}
use Rattle.std.proofs.lemmas.Iterator.{YieldsList-from_slice}
use Rattle.std.proofs.lemmas.Fn.{fold_over, fronts}
use Rattle.alpha.specs.Passes.{is_plain}
use Rattle.alpha.proofs.Scans.{every_push}
use Rattle.alpha.proofs.is_plain.Goals as goal

pub returns : goal.returns
unfolding every
returns c =
    fold_over fronts (λ y. y.now) _ (λ ys r. r ≡ every is_plain ys) _ (λ ys a x b f e k. let q : b ≡ (a && is_plain x.now) = search rules in (q ∙ ap (λ t. t && is_plain x.now) e ∙ every_push is_plain ys x.now, search rules)) _ c.args.s.now true _
    (YieldsList-from_slice c.args.s.now cc).runs refl c.fold.ensures.ran
