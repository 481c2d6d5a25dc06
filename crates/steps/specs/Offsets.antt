-- INDEX OFFSETS: over a step the index moves by one number, the same from every node, for any step and any shape. Assumes nothing.
use Rattle.std.specs.Prelude.{ℕ, ◌+◌, ◌*◌}
use Rattle.steps.specs.declared.Step.{Step}

-- how far back, and how far on
abbrev pub back_by : ℕ → ℕ → Step → ℕ
back_by h d st = (st.sheet.less * h + st.row.less) * (d + 1) + st.column.less

abbrev pub on_by : ℕ → ℕ → Step → ℕ
on_by h d st = (st.sheet.more * h + st.row.more) * (d + 1) + st.column.more
