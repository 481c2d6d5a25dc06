-- Bytes laid into a buffer, and more behind them. Assumes nothing.
use Rattle.std.specs.Prelude.{ℕ, ◌+◌, ◌≤◌, ◌≡◌, List, [], ◌++◌, length, take, drop}
use Rattle.std.proofs.Common.{add-zero, arith, sym, ◌∙◌, ap, append_assoc, append-nil, length-append, length-drop, take-append-drop, take_at, drop_at, drop-drop, length-take-le}
use Rattle.refusal.specs.Writing.{laid}

pub laid_none : (old : List ℕ) (at : ℕ) → laid old at [] ≡ old
laid_none old at = rw (append-nil, add-zero) (take-append-drop at old)

module _ (old : List ℕ) (at : ℕ) (a : List ℕ) (room : at + length a ≤ length old) where
  abbrev first : List ℕ
  first = take at old ++ a

  first-long : length first ≡ at + length a
  first-long = length-append (take at old) a ∙ ap (λ (n : ℕ). n + length a) (length-take-le at old (omega arith))

  pub laid-long : length (laid old at a) ≡ length old
  laid-long = length-append first (drop (at + length a) old) ∙ omega (arith, first-long, length-drop (at + length a) old)

  pub laid_more : (b : List ℕ) → laid (laid old at a) (at + length a) b ≡ laid old at (a ++ b)
  laid_more b =
      let n : ℕ = at + length a in
      let rest : List ℕ = drop n old in
      let front : take n (first ++ rest) ≡ first = take_at first rest n first-long in
      let back : drop (n + length b) (first ++ rest) ≡ drop (n + length b) old =
      sym (drop-drop (length b) n (first ++ rest)) ∙ ap (λ (l : List ℕ). drop (length b) l) (drop_at first rest n first-long) ∙ drop-drop (length b) n old in
      let same : n + length b ≡ at + length (a ++ b) = simp length-append (omega arith) in
      rw (front, back, same) (ap (λ (l : List ℕ). l ++ drop (at + length (a ++ b)) old) (append_assoc (take at old) a b))
