-- The column, the row, the newline. Assumes nothing.
use mathlib.Core.List.{[], ◌∷◌, ◌++◌}
use native.Mathlib.Omega.{arith}
use lib.ListN.{length-append}
use Rattle.panel_text.specs.Why.{column_part, row_part, place_text, spot_text}
use Rattle.panel_text.proofs.Pieces.{Put, put_first, put_next, length_place}
use Rattle.panel_text.proofs.put_spot.Goals.{After-put_place-arg-6-1, After-put_word-arg-3-1}
use Rattle.panel_text.proofs.put_spot.Goals as goal

column_at : (c : After-put_place-arg-6-1) → let g = c.args in
    Put g.at g.out.now (place_text column_part g.column) c.put_place-end.new.out c.put_place-end.result
column_at c =
    put_first _ _ _ _ _ (omega (arith, length_place column_part c.args.column, c.requires.2)) c.put_place-end.ensures.out_after c.put_place-end.ensures.value

row_at : (c : After-put_word-arg-3-1) → let g = c.args in
    Put g.at g.out.now (place_text column_part g.column ++ place_text row_part g.row) c.put_place-stop.new.out c.put_place-stop.result
row_at c =
    let column_at : let g = c.args in Put g.at g.out.now (place_text column_part g.column) c.put_place-end.new.out c.put_place-end.result =
    put_first _ _ _ _ _ (omega (arith, length_place column_part c.args.column, c.requires.2)) c.put_place-end.ensures.out_after
    c.put_place-end.ensures.value in
    put_next _ _ _ _ _ column_at _ _ _
    (omega (arith, length_place column_part c.args.column, length_place row_part c.args.row, c.requires.2)) c.put_place-stop.ensures.out_after
    c.put_place-stop.ensures.value

pub put_place-stop-requires : goal.put_place-stop-requires
put_place-stop-requires c =
    let p = column_at c in
    (c.requires.1, omega (arith, p.size, p.count, length_place column_part c.args.column, c.requires.2))

pub put_word-requires : goal.put_word-requires
put_word-requires c =
    let p = row_at c in
    let both = length-append (place_text column_part c.args.column) (place_text row_part c.args.row) in
    omega (arith, p.size, p.count, length_place column_part c.args.column, length_place row_part c.args.row, c.requires.2)

pub returns : goal.returns
unfolding spot_text
returns c =
    let both = length-append (place_text column_part c.args.column) (place_text row_part c.args.row) in
    let p = put_next _ _ _ _ _ (row_at (goal.at.returns c).After-put_word-arg-3-1) (10 ∷ []) _ _
    (omega (arith, length_place column_part c.args.column, length_place row_part c.args.row, c.requires.2)) c.put_word.ensures.out_after
    c.put_word.ensures.value in
    record { value = p.count; out_after = p.is }
