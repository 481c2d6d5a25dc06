-- THE TWO MODELS as lists of moves. Assumes nothing.
use Rattle.std.specs.Prelude.{ℕ, zero, suc, ◌+◌, ◌-◌, ◌≤◌, ◌<◌, ◌≡◌, refl, true, false, not, List, leb, eqb, length}
use Rattle.std.proofs.Common.{arith, sym, ap, ◌∙◌, subst, eqb-true, ne_eqb, leb-true}
use Rattle.std.proofs.lemmas.Bool.{not-true}
use Rattle.shape.specs.Choice.{if-true, if-false, whether}
use Rattle.shape.proofs.Ranges.{halves}
use Rattle.steps.specs.Steps.{Table, base, here, step, naming, namer}
use Rattle.steps.specs.ByPlace.{from}
use Rattle.steps.specs.Ranks.{rank, pick, rank-all}
use Rattle.steps.specs.Moves.{Move, move_at, reverse, names, unmoved, opposite, owned, kind_at, step_at, table_of, times, Steps}
use Rattle.steps.specs.Suited.{Suited}
use Rattle.steps.proofs.Suits.{suited}
use Rattle.steps.specs.Models.{are_steps, circuit, circuit_level, diagonals, of_model, phenomenological, step_fits}

pub steps-by : (ms : List Move) → are_steps ms ≡ true → Steps ms
steps-by ms e =
    record {
      moves = λ x l. not-true _ (parts x l).0;
      rise = λ x l. leb-true _ _ (parts x l).1;
      fall = λ x l. leb-true _ _ (parts x l).2;
      distinct = λ x l. eqb-true _ _ (parts x l).3;
      opposites = λ x l. eqb-true _ _ (parts x l).4;
    }
  where
    parts : (x : ℕ) → x < length ms
        → (not (unmoved (move_at ms x)) ≡ true) × (leb (move_at ms x).sheet.less ((move_at ms x).sheet.more + 1) ≡ true) × (leb (move_at ms x).sheet.more ((move_at ms x).sheet.less + 1) ≡ true)
        × (eqb (times ms (move_at ms x)) 1 ≡ true) × (eqb (times ms (reverse (move_at ms x))) 1 ≡ true)
    parts x l =
        let a = halves _ _ (rank-all (step_fits ms) (length ms) (eqb-true _ _ e) x l) in
        let b = halves _ _ a.0 in
        let c = halves _ _ b.0 in
        let d = halves _ _ c.0 in
        (d.0, d.1, c.1, b.1, a.1)

pub steps-0 : Steps phenomenological
unfolding phenomenological rank
steps-0 = steps-by phenomenological refl

pub steps-1 : Steps circuit_level
unfolding phenomenological diagonals rank
steps-1 = steps-by circuit_level refl

-- model 0's table is the one that is written out
pub base-is : table_of phenomenological ≡ base
unfolding base phenomenological table_of from step_at kind_at opposite rank pick names
base-is = refl

-- the kinds of model 1, by their steps in scan order: E, S, U, NU, EU, SEU, which is the documents' order of a layer
pub kinds-1 : ((table_of circuit_level).kinds ≡ 6) × (pick (owned circuit_level) 12 0 + 1 ≡ 3) × (pick (owned circuit_level) 12 1 + 1 ≡ 4) × (pick (owned circuit_level) 12 2 + 1 ≡ 6)
    × (pick (owned circuit_level) 12 3 + 1 ≡ 7) × (pick (owned circuit_level) 12 4 + 1 ≡ 9) × (pick (owned circuit_level) 12 5 + 1 ≡ 12)
unfolding phenomenological diagonals table_of rank pick names
kinds-1 = (refl, refl, refl, refl, refl, refl, refl)

pub circuit-is : table_of circuit_level ≡ circuit
unfolding circuit phenomenological diagonals table_of from step_at kind_at opposite rank pick names
circuit-is = refl

pub suited-base : Suited base
suited-base = subst Suited base-is (suited phenomenological steps-0)

pub suited-circuit : Suited circuit
suited-circuit = subst Suited circuit-is (suited circuit_level steps-1)

pub of-circuit : (m : ℕ) → eqb m 1 ≡ true → of_model m ≡ circuit
unfolding of_model
of-circuit m e = if-true _ _ _ e

pub of-base : (m : ℕ) → eqb m 1 ≡ false → of_model m ≡ base
unfolding of_model
of-base m e = if-false _ _ _ e

-- what holds of both tables holds of every model's
pub of-both {ℓ} : (P : Table → Type ℓ) (m : ℕ) → P circuit → P base → P (of_model m)
of-both P m a b = whether (eqb m 1) (λ e. subst P (sym (of-circuit m e)) a) (λ e. subst P (sym (of-base m e)) b)

pub suited-model : (m : ℕ) → Suited (of_model m)
suited-model m = of-both Suited m suited-circuit suited-base

-- so many directions and kinds
pub few-dirs : (m : ℕ) → length (of_model m).steps ≤ 12
unfolding circuit base
few-dirs m = of-both (λ (T : Table). length T.steps ≤ 12) m (omega arith) (omega arith)

pub few-kinds : (m : ℕ) → (of_model m).kinds ≤ 6
unfolding circuit base
few-kinds m = of-both (λ (T : Table). T.kinds ≤ 6) m (omega arith) (omega arith)

-- BY POINTER: the steps of model 0 are the first six of model 1

pub circuit-stays : (p : ℕ) → 12 < p → here ≡ step circuit p
unfolding circuit
circuit-stays p l = let e : p ≡ suc (suc (suc (suc (suc (suc (suc (suc (suc (suc (suc (suc (suc (p - 13))))))))))))) = omega arith in sym (ap (step circuit) e)

pub base_stays : (p : ℕ) → 6 < p → here ≡ step base p
unfolding base
base_stays p l = let e : p ≡ suc (suc (suc (suc (suc (suc (suc (p - 7))))))) = omega arith in sym (ap (step base) e)

pub first-six : (p : ℕ) → p ≤ 6 → step circuit p ≡ step base p
unfolding circuit base
first-six zero l = refl
first-six (suc zero) l = refl
first-six (suc (suc zero)) l = refl
first-six (suc (suc (suc zero))) l = refl
first-six (suc (suc (suc (suc zero)))) l = refl
first-six (suc (suc (suc (suc (suc zero))))) l = refl
first-six (suc (suc (suc (suc (suc (suc zero)))))) l = refl
first-six (suc (suc (suc (suc (suc (suc (suc p))))))) l = absurd (omega arith)

pub model-stays : (m p : ℕ) → length (of_model m).steps < p → step circuit 0 ≡ step (of_model m) p
unfolding circuit base
model-stays m p l =
    whether (eqb m 1)
    (λ e. let k = of-circuit m e in let f : 12 < p = subst (λ (T : Table). length T.steps < p) k l in circuit-stays p f ∙ ap (λ (T : Table). step T p) (sym k))
    (λ e. let k = of-base m e in let f : 6 < p = subst (λ (T : Table). length T.steps < p) k l in base_stays p f ∙ ap (λ (T : Table). step T p) (sym k))

pub model-steps : (m p : ℕ) → p ≤ length (of_model m).steps → step circuit p ≡ step (of_model m) p
unfolding base
model-steps m p l =
    whether (eqb m 1)
    (λ e. ap (λ (T : Table). step T p) (sym (of-circuit m e)))
    (λ e. let k = of-base m e in let f : p ≤ 6 = subst (λ (T : Table). p ≤ length T.steps) k l in first-six p f ∙ ap (λ (T : Table). step T p) (sym k))

-- BY KIND, likewise

pub circuit-none : (k : ℕ) → 6 ≤ k → 0 ≡ namer circuit k
unfolding circuit naming
circuit-none k l =
    rw (
      ne_eqb 0 k (λ (e : 0 ≡ k). omega arith),
      ne_eqb 1 k (λ (e : 1 ≡ k). omega arith),
      ne_eqb 2 k (λ (e : 2 ≡ k). omega arith),
      ne_eqb 3 k (λ (e : 3 ≡ k). omega arith),
      ne_eqb 4 k (λ (e : 4 ≡ k). omega arith),
      ne_eqb 5 k (λ (e : 5 ≡ k). omega arith),
      naming,
    )

pub base-none : (k : ℕ) → 3 ≤ k → 0 ≡ namer base k
unfolding base naming
base-none k l = rw (ne_eqb 0 k (λ (e : 0 ≡ k). omega arith), ne_eqb 1 k (λ (e : 1 ≡ k). omega arith), ne_eqb 2 k (λ (e : 2 ≡ k). omega arith), naming)

first_three : (k : ℕ) → k < 3 → namer circuit k ≡ namer base k
unfolding circuit base naming
first_three zero l = refl
first_three (suc zero) l = refl
first_three (suc (suc zero)) l = refl
first_three (suc (suc (suc k))) l = absurd (omega arith)

pub model-none : (m k : ℕ) → (of_model m).kinds ≤ k → 0 ≡ namer (of_model m) k
unfolding circuit base
model-none m k l =
    whether (eqb m 1)
    (λ e. let q = of-circuit m e in let f : 6 ≤ k = subst (λ (T : Table). T.kinds ≤ k) q l in circuit-none k f ∙ ap (λ (T : Table). namer T k) (sym q))
    (λ e. let q = of-base m e in let f : 3 ≤ k = subst (λ (T : Table). T.kinds ≤ k) q l in base-none k f ∙ ap (λ (T : Table). namer T k) (sym q))

pub model-names : (m k : ℕ) → k < (of_model m).kinds → namer circuit k ≡ namer (of_model m) k
unfolding base
model-names m k l =
    whether (eqb m 1)
    (λ e. ap (λ (T : Table). namer T k) (sym (of-circuit m e)))
    (λ e. let q = of-base m e in let f : k < 3 = subst (λ (T : Table). k < T.kinds) q l in first_three k f ∙ ap (λ (T : Table). namer T k) (sym q))
