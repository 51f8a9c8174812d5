-- Each piece leaves what stands before it (`file_put`). Assumes nothing.
use mathlib.Core.Path.{◌∙◌}
use Rattle.panel_file_writer.proofs.Fields.{file_put}
use Rattle.panel_file_writer.proofs.put_file.Goals as goal

pub returns : goal.returns
returns c =
    file_put _ _ _ _ _ _ (λ k. (c.slice_known-4-1.given k).fits) c.requires.n_bound.1 c.requires.n_bound.2 (c.put_head.ensures.0 ∙ c.requires.n_bound.3)
    c.put_head.ensures.1 c.put_head.ensures.2
    c.put_numbers.ensures.keeps_before.0 c.put_numbers.ensures.keeps_before.1 c.put_numbers.ensures.k_after c.put_numbers-2.ensures.keeps_before.0
    c.put_numbers-2.ensures.keeps_before.1 c.put_numbers-2.ensures.k_after
