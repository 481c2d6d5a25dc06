-- THE FIRST WORK LIST OF A TURN, by what stands in the arrays after grow. Assumes nothing.
use Rattle.std.specs.Prelude.{ℕ, ◌+◌, ◌-◌, ◌≤◌, ◌<◌, ◌≡◌, refl, Bool, true, false, List, eqb, get_or}
use Rattle.std.proofs.Common.{arith, sym, ◌∙◌, ap, subst, eq-eqb}
use Rattle.refusal.specs.Laws.{undone}
use Rattle.flat.specs.Codes.{defect_of, growth_of, reset_code}
use Rattle.flat.specs.Entries.{margin, entry, within, over_by}
use Rattle.flat.specs.LawsEntries.{inside}
use Rattle.flat.specs.Plan.{Plan}
use Rattle.flat.specs.Step.{named, list_at, Places}
use Rattle.queue.specs.Queue.{Queue}
use Rattle.queue.specs.LawsNamed.{extends-named}
use Rattle.enlist.specs.Enlisted.{Enlisted, Spread}

-- of n nodes, so many to a sheet; so many were listed before
pub record Worked (P : Plan) (n sheet : ℕ) (changes : Bool) (opened : ℕ) (nodes marks edges old : List ℕ) (count : ℕ) (lists : List ℕ) (queued : List Bool) : Type 0 where
  pub queue : Queue 0 count lists queued
  pub places : Places n count (list_at lists 0)
  -- what was listed is
  pub kept : (x : ℕ) → named (list_at old 0) opened x ≡ true → named (list_at lists 0) count x ≡ true
  -- a bottom node that is marked reset, and what lies over its open edges
  pub reset : changes ≡ true → (x : ℕ) → within n x ≡ true → margin + n - sheet ≤ x → get_or marks x 0 ≡ reset_code → named (list_at lists 0) count x ≡ true
  pub near : changes ≡ true → (x k : ℕ) → within n x ≡ true → k < P.dirs → margin + n - sheet ≤ x → get_or marks x 0 ≡ reset_code → eqb (growth_of (get_or edges (over_by x (P.slot k)) 0)) 2 ≡ true
      → named (list_at lists 0) count (over_by x (P.off k)) ≡ true
  -- a defect of the top sheet
  pub received : changes ≡ true → (i : ℕ) → i < sheet → defect_of (get_or nodes (entry i) 0) ≡ true → named (list_at lists 0) count (entry i) ≡ true
  pub all : changes ≡ false → (g : ℕ) → g < n → named (list_at lists 0) count (entry g) ≡ true

module _ (P : Plan) (n sheet : ℕ) (changes : Bool) (opened : ℕ) (nodes marks edges old : List ℕ) where
  pub work-all : changes ≡ false → (count : ℕ) (lists : List ℕ) (queued : List Bool) → Enlisted n opened old (λ i. true) (λ i. 512 + i) n count lists queued
      → Worked P n sheet changes opened nodes marks edges old count lists queued
  work-all f count lists queued E =
      record {
        queue = E.listing.queue;
        places = E.listing.places;
        kept = extends-named 0 opened count old lists E.listing.extends;
        reset = λ t. absurd (undone (sym t ∙ f));
        near = λ t. absurd (undone (sym t ∙ f));
        received = λ t. absurd (undone (sym t ∙ f));
        all = λ t g l. E.names g l refl;
      }

  module _ (t : changes ≡ true) (fits : sheet ≤ n)
      (q₁ : ℕ) (lists₁ : List ℕ) (queued₁ : List Bool)
      (E₁ : Spread P (λ e. growth_of (get_or edges e 0)) n opened old (λ i. eqb (get_or marks (512 + n - sheet + i) 0) 65535) (λ i. 512 + n - sheet + i) sheet q₁ lists₁ queued₁)
      (q₂ : ℕ) (lists₂ : List ℕ) (queued₂ : List Bool) (E₂ : Enlisted n q₁ lists₁ (λ i. defect_of (get_or nodes (512 + i) 0)) (λ i. 512 + i) sheet q₂ lists₂ queued₂) where
    second : (x : ℕ) → named (list_at lists₁ 0) q₁ x ≡ true → named (list_at lists₂ 0) q₂ x ≡ true
    second = extends-named 0 q₁ q₂ lists₁ lists₂ E₂.listing.extends

    -- a bottom node by its place in the sheet
    low : (x : ℕ) → within n x ≡ true → margin + n - sheet ≤ x → (x - (margin + n - sheet) < sheet) × (512 + n - sheet + (x - (margin + n - sheet)) ≡ x)
    low x w l = let r = inside n x w in let hi = r.1 in (omega arith, omega arith)

    is-reset : (x : ℕ) → get_or marks x 0 ≡ reset_code → (i : ℕ) → 512 + n - sheet + i ≡ x → eqb (get_or marks (512 + n - sheet + i) 0) 65535 ≡ true
    is-reset x m i e = eq-eqb _ 65535 (ap (λ (y : ℕ). get_or marks y 0) e ∙ m)

    pub work-changes : Worked P n sheet changes opened nodes marks edges old q₂ lists₂ queued₂
    work-changes =
        record {
          queue = E₂.listing.queue;
          places = E₂.listing.places;
          kept = λ x e. second x (extends-named 0 opened q₁ old lists₁ E₁.listing.extends x e);
          reset = λ c x w l m.
              let r = low x w l in
              subst (λ (y : ℕ). named (list_at lists₂ 0) q₂ y ≡ true) r.1 (second _ (E₁.self _ r.0 (is-reset x m _ r.1)));
          near = λ c x k w h l m o.
              let r = low x w l in
              subst (λ (y : ℕ). named (list_at lists₂ 0) q₂ (over_by y (P.off k)) ≡ true) r.1
              (second _ (E₁.near _ k r.0 h (is-reset x m _ r.1) (ap (λ (y : ℕ). eqb (growth_of (get_or edges (over_by y (P.slot k)) 0)) 2) r.1 ∙ o)));
          received = λ c i l d. E₂.names i l d;
          all = λ f. absurd (undone (sym t ∙ f));
        }
