-- WHETHER POINTERS RIDE, as a loop over the arrays tells. Assumes nothing.
use Rattle.std.specs.Prelude.{ℕ, zero, suc, ◌+◌, ◌-◌, ◌≤◌, ◌≡◌, Bool, ◌&&◌, ◌||◌, List, [], leb, eqb, get_or}
use Rattle.std.specs.List.{list_all, range_with_len}
use Rattle.std.proofs.Common.{add-one, arith, sym, ◌∙◌, ap, ⊎_elim}
use Rattle.shape.specs.Choice.{order}
use Rattle.std.proofs.Math.Bool.{and-true, and_assoc}
use Rattle.std.proofs.Math.Path.{refl}
use Rattle.window.specs.Lists.{every}
use Rattle.flat.specs.Codes.{pointer_of, growth_of}
use Rattle.flat.specs.Entries.{state_of, over_by}
use Rattle.flat.specs.Plan.{plan_of}
use Rattle.flat.specs.declared.Sizes.{Sizes}
use Rattle.shows.specs.Grown.{cuts_at}
use Rattle.shows.specs.Tests.{rides_at}

-- pointers that fall out of the sheet at the bottom may be excepted; marks do not count
abbrev pub rides_in : Sizes → Bool → List ℕ → List ℕ → List ℕ → ℕ → Bool
rides_in z leaving nodes edges table x =
    let P = plan_of z table in
    let st = state_of nodes [] edges in
    (leaving && cuts_at P z.nodes z.sheet st x) || rides_at P st x

-- the same by the code's parts
abbrev pub rides_by : List ℕ → List ℕ → ℕ → ℕ → Bool
rides_by edges table x p = eqb p 0 || eqb (growth_of (get_or edges (over_by x (get_or table (32 + (p - 1)) 0)) 0)) 2

abbrev pub out_by : List ℕ → ℕ → ℕ → ℕ → Bool
out_by table bottom x p = leb bottom x && eqb (get_or table (128 + p) 0) 1

abbrev pub rides_out : Bool → ℕ → List ℕ → List ℕ → List ℕ → ℕ → Bool
rides_out leaving bottom nodes edges table x =
    let p = pointer_of (get_or nodes x 0) in
    (leaving && out_by table bottom x p) || rides_by edges table x p

-- the tests of a range, one after the other
every-front : (f : ℕ → Bool) (n : ℕ) → every (suc n) f ≡ (f 0 && every n (λ i. f (suc i)))
unfolding every
every-front f zero = sym (and-true (f 0))
every-front f (suc n) = ap (λ (b : Bool). b && f (suc n)) (every-front f n) ∙ and_assoc (f 0) (every n (λ i. f (suc i))) (f (suc n))

pub every-range : (f g : ℕ → Bool) (n a : ℕ) → ((i : ℕ) → f (a + i) ≡ g i) → list_all f (range_with_len a n) ≡ every n g
unfolding every
every-range f g zero a h = refl
every-range f g (suc n) a h =
    ap (λ (b : Bool). f a && b) (every-range f (λ i. g (suc i)) n (a + 1) (λ i. ap f (next i) ∙ h (suc i)))
    ∙ ap (λ (b : Bool). b && every n (λ i. g (suc i))) (ap f first ∙ h 0)
    ∙ sym (every-front g n)
  where
    first : a ≡ a + 0
    first = omega arith

    next : (i : ℕ) → a + 1 + i ≡ a + suc i
    next i = omega arith

-- laws of loops, kept for readers
pub rides-by : (leaving : Bool) (bottom : ℕ) (nodes edges table : List ℕ) (x p : ℕ) (r : Bool) → p ≡ pointer_of (get_or nodes x 0) → r ≡ rides_by edges table x p
    → ((leaving && out_by table bottom x p) || r) ≡ rides_out leaving bottom nodes edges table x
rides-by leaving bottom nodes edges table x p r e f = rw (f, e)

pub every-next : (f : ℕ → Bool) (i : ℕ) (b v : Bool) → b ≡ every i f → v ≡ f i → (b && v) ≡ every (i + 1) f
unfolding every
every-next f i b v p q = rw (p, q, add-one)

pub some : (p : ℕ) → (p ≡ 0 → ⊥) → 1 ≤ p
some p f = ⊎_elim (λ l. l) (λ l. absurd (f (omega arith))) (order 0 p)
