-- THE LISTED NODES, as a slice has them. Assumes nothing.
use Rattle.std.specs.Prelude.{ℕ, List, get_or}

abbrev pub list_of : List ℕ → ℕ → ℕ
list_of listed i = get_or listed i 0
