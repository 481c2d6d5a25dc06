-- INDEX OFFSETS: over a step the index moves by one number, the same from every node, for any step and any shape. Assumes nothing.
use Rattle.std.specs.Prelude.{ℕ, ◌+◌, ◌*◌, ◌≡◌, refl}
use Rattle.std.proofs.Common.{add-mul, arith, sym, ◌∙◌}
use Rattle.shape.specs.Nodes.{index_of}
use Rattle.steps.specs.Steps.{goes, across}
use Rattle.steps.specs.Joins.{Joins}
use Rattle.shape.specs.declared.Place.{Place}
use Rattle.steps.specs.declared.Step.{Step}
use Rattle.steps.specs.Offsets.{back_by, on_by}

-- places add up
spread : (h w a b c e f g : ℕ) → ((a * h + b) * w + c) + ((e * h + f) * w + g) ≡ ((a + e) * h + (b + f)) * w + (c + g)
spread h w a b c e f g =
    let x : (a + e) * h ≡ a * h + e * h = add-mul a e h in
    let y : ((a * h + b) + (e * h + f)) * w ≡ (a * h + b) * w + (e * h + f) * w = add-mul (a * h + b) (e * h + f) w in
    let z : (a + e) * h + (b + f) ≡ (a * h + b) + (e * h + f) = omega arith in
    rw z (omega arith)

pub index-offset : (h d k : ℕ) (st : Step) (q : Place) → Joins h d k st q → index_of h d (across st q) + back_by h d st ≡ index_of h d q + on_by h d st
unfolding index_of across
index-offset h d k st q j =
    let a : goes st.sheet q.depth + st.sheet.less ≡ q.depth + st.sheet.more = let l = j.sheet in omega arith in
    let b : goes st.row q.row + st.row.less ≡ q.row + st.row.more = let l = j.row in omega arith in
    let c : goes st.column q.column + st.column.less ≡ q.column + st.column.more = let l = j.column in omega arith in
    spread h (d + 1) (goes st.sheet q.depth) (goes st.row q.row) (goes st.column q.column) st.sheet.less st.row.less st.column.less
    ∙ rw (a, b, c) refl
    ∙ sym (spread h (d + 1) q.depth q.row q.column st.sheet.more st.row.more st.column.more)
