-- The reason, then its text, by its case. Assumes nothing.
use mathlib.Core.Path.{◌∙◌}
use borrow.Author.Rules.{rules}
use Rattle.why_file.specs.Placed.{Placed}
use Rattle.panel_text.proofs.Writing.{prints}
use Rattle.panel_text.proofs.Pieces.{told_none, told_refused, case_text}
use Rattle.panel_text.proofs.why_text.Goals as goal

pub put_factoring-requires : goal.put_factoring-requires
unfolding Placed
put_factoring-requires c = let p = rw c.in-Some-Factoring.field-0-is at c.in-Some-Factoring.ensures.placed in (p.0, p.1, p.2, search rules)

pub put_singular-requires : goal.put_singular-requires
unfolding Placed
put_singular-requires c = let p = rw c.in-Some-Singular.field-0-is at c.in-Some-Singular.ensures.placed in (p, search rules)

pub put_solving-requires : goal.put_solving-requires
unfolding Placed
put_solving-requires c = let p = rw c.in-Some-Solving.field-0-is at c.in-Some-Solving.ensures.placed in (p.0, p.1, search rules)

pub returns-in-None : goal.returns-in-None
returns-in-None c =
    let p = prints _ _ _ _ _ (told_none ∙ case_text _ _ c.in-None.ensures.result_value) c.put_word.ensures.value c.put_word.ensures.out_after in
    record { prefix_len = p.0; value = p.1.0; out_after = p.1.1 }

pub returns-in-Some-Refused : goal.returns-in-Some-Refused
returns-in-Some-Refused c =
    let told = rw c.in-Some-Refused.field-0-is at c.in-Some-Refused.ensures.result_value in
    let p = prints _ _ _ _ _ (told_refused _ ∙ case_text _ _ told) c.put_refusal.ensures.value c.put_refusal.ensures.out_after in
    record { prefix_len = p.0; value = p.1.0; out_after = p.1.1 }

pub returns-in-Some-Factoring : goal.returns-in-Some-Factoring
returns-in-Some-Factoring c =
    let told = rw c.in-Some-Factoring.field-0-is at c.in-Some-Factoring.ensures.result_value in
    let p = prints _ _ _ _ _ (case_text _ _ told) c.put_factoring.ensures.value c.put_factoring.ensures.out_after in
    record { prefix_len = p.0; value = p.1.0; out_after = p.1.1 }

pub returns-in-Some-Singular : goal.returns-in-Some-Singular
returns-in-Some-Singular c =
    let told = rw c.in-Some-Singular.field-0-is at c.in-Some-Singular.ensures.result_value in
    let p = prints _ _ _ _ _ (case_text _ _ told) c.put_singular.ensures.value c.put_singular.ensures.out_after in
    record { prefix_len = p.0; value = p.1.0; out_after = p.1.1 }

pub returns-in-Some-Solving : goal.returns-in-Some-Solving
returns-in-Some-Solving c =
    let told = rw c.in-Some-Solving.field-0-is at c.in-Some-Solving.ensures.result_value in
    let p = prints _ _ _ _ _ (case_text _ _ told) c.put_solving.ensures.value c.put_solving.ensures.out_after in
    record { prefix_len = p.0; value = p.1.0; out_after = p.1.1 }
