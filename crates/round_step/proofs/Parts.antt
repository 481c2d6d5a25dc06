-- What the loops over nodes and over marks leave, entry by entry. Assumes nothing.
use Prim.Native.Nat.{ℕ, ◌+◌, ◌-◌, ◌*◌, ◌≤◌, ◌<◌}
use native.Mathlib.Omega.{arith}
use mathlib.Core.Path.{◌≡◌, ◌∙◌, ap}
use mathlib.Core.Bool.{true, false, ◌&&◌, not}
use mathlib.Core.List.{List}
use mathlib.Core.Logic.{⊎_elim}
use lib.Dec.{eqb}
use lib.ListN.{length, get_or}
use Rattle.shape.specs.Boundaries.{between, either_end}
use Rattle.shape.specs.Choice.{whether}
use Rattle.shape.specs.Counting.{before}
use Rattle.shape.proofs.Ranges.{ranged}
use Rattle.shape.specs.Sizes.{in_range, boundary, nodes_of}
use Rattle.window.specs.Round.{lowered_number}
use Rattle.flat.specs.Codes.{node_code}
use Rattle.flat.specs.Entries.{margin, plane, entry}
use Rattle.flat.specs.Stored.{stored, stored_at, stored-behind, length-stored}
use Rattle.sinking.specs.Sunk.{settled, thresholds_of, lowered_by}
use Rattle.sinking.specs.LawsSunk.{lowered-number}
use Rattle.top_sheet.specs.Received.{Received}
use Rattle.round_step.specs.Falls.{FallsNodes, FallsMarks}
use Rattle.round_step.specs.LawsFalls.{fitting}

-- a sheet that is cleared
pub clear : (h d : ℕ) → in_range h d ≡ true → (sheet : ℕ) → sheet ≡ h * (d + 1) → (l₁ l₂ : List ℕ) → length l₁ ≡ plane → l₂ ≡ stored 512 (λ i. 0) sheet l₁
    → (x : ℕ) → x < h * (d + 1) → get_or l₂ (512 + x) 0 ≡ 0
clear h d ok sheet es l₁ l₂ long e x l =
    let most = (fitting h d ok).sheet in
    ap (λ (k : List ℕ). get_or k (512 + x) 0) e ∙ stored_at 512 (λ i. 0) sheet l₁ 0 x (omega arith) (omega (arith, long))

module _ (h d : ℕ) (ok : in_range h d ≡ true) (n sheet : ℕ) (en : n ≡ nodes_of h d) (es : sheet ≡ h * (d + 1)) where
  module _ (bytes old l₀ l₁ l₂ l₃ : List ℕ) (size : length l₀ ≡ plane)
      (sinks : l₁ ≡ stored (512 + sheet) (λ i. settled (get_or old (512 + i) 0)) (n - sheet) l₀) (clears : l₂ ≡ stored 512 (λ i. 0) sheet l₁) (R : Received h d bytes l₂ l₃) where
    abbrev f : ℕ → ℕ
    f i = settled (get_or old (512 + i) 0)

    long₁ : length l₁ ≡ plane
    long₁ = ap length sinks ∙ length-stored (512 + sheet) f (n - sheet) l₀ ∙ size

    cleared : (r c : ℕ) → r < h → c ≤ d → get_or l₂ (512 + (r * (d + 1) + c)) 0 ≡ 0
    cleared r c a b =
        clear h d ok sheet es l₁ l₂ long₁ clears (r * (d + 1) + c) (before (d + 1) r c (omega arith) h a)

    on-top : (r c : ℕ) → r < h → c ≤ d → get_or l₃ (entry (r * (d + 1) + c)) 0 ≡ node_code false (not (boundary d c) && eqb (get_or bytes (r * (d - 1) + (c - 1)) 0) 1) false 0
    on-top r c a b =
        whether (boundary d c)
        (λ t. R.sides r c a b (λ x y. ⊎_elim (λ e. omega arith) (λ e. omega arith) (either_end d c t)) ∙ cleared r c a b ∙ rw t)
        (λ t. let i = between d c t b in R.detectors r c a i.0 i.1 ∙ rw t)

    lower : (x : ℕ) → margin ≤ x → x + h * (d + 1) < margin + nodes_of h d → get_or l₃ (x + h * (d + 1)) 0 ≡ settled (get_or old x 0)
    lower x a b =
        let fits = fitting h d ok in
        let two = fits.two in
        let most = fits.most in
        let e : x + h * (d + 1) ≡ 512 + sheet + (x - 512) = omega arith in
        let u : 512 + (x - 512) ≡ x = omega arith in
        R.behind (x + h * (d + 1)) (omega arith)
        ∙ ap (λ (l : List ℕ). get_or l (x + h * (d + 1)) 0) clears
        ∙ stored-behind 512 (λ i. 0) sheet l₁ 0 (x + h * (d + 1)) (omega arith)
        ∙ ap (λ (y : ℕ). get_or l₁ y 0) e
        ∙ ap (λ (l : List ℕ). get_or l (512 + sheet + (x - 512)) 0) sinks
        ∙ stored_at (512 + sheet) f (n - sheet) l₀ 0 (x - 512) (omega arith) (omega arith)
        ∙ ap (λ (y : ℕ). settled (get_or old y 0)) u

    pub falls-nodes : FallsNodes h d bytes old l₃
    falls-nodes = record { long = R.long ∙ ap length clears ∙ length-stored 512 (λ i. 0) sheet l₁ ∙ long₁; top = on-top; low = lower }

  module _ (table old l₀ l₁ l₂ : List ℕ) (size : length l₀ ≡ plane)
      (sinks : l₁ ≡ stored (512 + sheet) (λ i. lowered_by (thresholds_of h d) (get_or old (512 + i) 0)) (n - sheet) l₀) (fresh : l₂ ≡ stored 512 (λ i. get_or table (512 + i) 0) sheet l₁) where
    abbrev g : ℕ → ℕ
    g i = lowered_by (thresholds_of h d) (get_or old (512 + i) 0)

    abbrev own : ℕ → ℕ
    own i = get_or table (512 + i) 0

    longer : length l₁ ≡ plane
    longer = ap length sinks ∙ length-stored (512 + sheet) g (n - sheet) l₀ ∙ size

    new-mark : (i : ℕ) → i < h * (d + 1) → get_or l₂ (entry i) 0 ≡ get_or table (entry i) 0
    new-mark i a = let most = (fitting h d ok).sheet in ap (λ (l : List ℕ). get_or l (entry i) 0) fresh ∙ stored_at 512 own sheet l₁ 0 i (omega arith) (omega (arith, longer))

    old-mark : (x : ℕ) → margin ≤ x → x + h * (d + 1) < margin + nodes_of h d → get_or l₂ (x + h * (d + 1)) 0 ≡ lowered_number h d (get_or old x 0)
    old-mark x a b =
        let fits = fitting h d ok in
        let two = fits.two in
        let most = fits.most in
        let e : x + h * (d + 1) ≡ 512 + sheet + (x - 512) = omega arith in
        let u : 512 + (x - 512) ≡ x = omega arith in
        ap (λ (l : List ℕ). get_or l (x + h * (d + 1)) 0) fresh
        ∙ stored-behind 512 own sheet l₁ 0 (x + h * (d + 1)) (omega arith)
        ∙ ap (λ (y : ℕ). get_or l₁ y 0) e
        ∙ ap (λ (l : List ℕ). get_or l (512 + sheet + (x - 512)) 0) sinks
        ∙ stored_at (512 + sheet) g (n - sheet) l₀ 0 (x - 512) (omega arith) (omega arith)
        ∙ ap (λ (y : ℕ). lowered_by (thresholds_of h d) (get_or old y 0)) u
        ∙ lowered-number h d (ranged h d ok) (get_or old x 0)

    pub falls-marks : FallsMarks h d table old l₂
    falls-marks = record { long = ap length fresh ∙ length-stored 512 own sheet l₁ ∙ longer; top = new-mark; low = old-mark }
