-- Laws of the list of active nodes: a loop's start and its turns. Assumes nothing.
use Rattle.std.specs.Prelude.{ℕ, zero, suc, ◌+◌, ◌-◌, ◌≤◌, ◌<◌, ◌≡◌, refl, Bool, true, false, List, length, get_or, set}
use Rattle.std.proofs.Common.{arith, ap, sym, ◌∙◌, subst, ⊎_elim, eq-eqb, length-set, get_or-set_same, get_or-set_other}
use Rattle.refusal.specs.Laws.{undone}
use Rattle.shape.specs.Choice.{whether, order}
use Rattle.window.specs.Lists.{any}
use Rattle.flat.specs.Codes.{active_of}
use Rattle.flat.specs.Entries.{within}
use Rattle.flat.specs.LawsEntries.{inside, within_by}
use Rattle.flat.specs.Step.{active_at}
use Rattle.queue.specs.LawsNamed.{named_in, named-longer}
use Rattle.growing.specs.Grown.{Actives}

-- a test that fails for some fails for each
pub any-each : (f : ℕ → Bool) (n i : ℕ) → any n f ≡ false → i < n → f i ≡ false
unfolding any
any-each f zero i e l = absurd (omega arith)
any-each f (suc n) i e l =
    whether (any n f)
    (λ t. absurd (undone (rw t at e)))
    (λ t.
    let g : f n ≡ false = rw t at e in
    ⊎_elim (λ h. any-each f n i t h) (λ h. let q : i ≡ n = omega arith in rw q g) (order i n))

pub any-done : (f : ℕ → Bool) (i n : ℕ) (now : Bool) → now ≡ any i f → i ≤ n → n ≤ i → now ≡ any n f
any-done f i n now p a b = let e : i ≡ n = omega arith in p ∙ ap (λ (k : ℕ). any k f) e

within_more : (n m x : ℕ) → n ≤ m → within n x ≡ true → within m x ≡ true
within_more n m x l t = let r = inside n x t in let r0 = r.0 in let r1 = r.1 in within_by m x r0 (omega arith)

pub actives-none : (nodes lists : List ℕ) → Actives 0 nodes 0 lists lists
actives-none nodes lists =
    record {
      few = omega arith;
      long = refl;
      places = λ i l. absurd (omega arith);
      active = λ i l. absurd (omega arith);
      rise = λ i j l m. absurd (omega arith);
      all = λ x w t. absurd (let r = inside 0 x w in let r0 = r.0 in let r1 = r.1 in omega arith);
      before = λ i l. refl;
    }

module _ (n : ℕ) (nodes : List ℕ) (count : ℕ) (old lists : List ℕ) (A : Actives n nodes count old lists) where
  -- by itself, and from an older list on
  pub actives-here : Actives n nodes count lists lists
  actives-here =
      record { few = A.few; long = refl; places = A.places; active = A.active; rise = A.rise; all = A.all; before = λ i l. refl }

  pub actives-on : (m more : ℕ) (lists' : List ℕ) → Actives m nodes more lists lists' → Actives m nodes more old lists'
  actives-on m more lists' B =
      record {
        few = B.few;
        long = B.long ∙ A.long;
        places = B.places;
        active = B.active;
        rise = B.rise;
        all = B.all;
        before = λ i l. B.before i l ∙ A.before i l;
      }

  pub actives-all : (m : ℕ) → n ≤ m → m ≤ n → Actives m nodes count old lists
  actives-all m a b = let e : n ≡ m = omega arith in rw e at A

  -- none of the next m is active
  pub actives-idle : (m : ℕ) → ((i : ℕ) → i < m → active_of (get_or nodes (512 + n + i) 0) ≡ false) → Actives (n + m) nodes count old lists
  actives-idle m idle =
      record {
        few = let f = A.few in omega arith;
        long = A.long;
        places = λ i l. within_more n (n + m) (active_at lists i) (omega arith) (A.places i l);
        active = A.active;
        rise = A.rise;
        all = λ x w t.
            let r = inside (n + m) x w in
            let r0 = r.0 in
            let r1 = r.1 in
            ⊎_elim
            (λ l. A.all x (within_by n x r0 l) t)
            (λ l. let e : 512 + n + (x - (512 + n)) ≡ x = omega arith in absurd (undone (sym t ∙ (rw e at (idle (x - (512 + n)) (omega arith))))))
            (order x (512 + n));
        before = A.before;
      }

  -- the next one is
  module _ (size : length old ≡ 13824) (small : n < 3600) (t : active_of (get_or nodes (512 + n) 0) ≡ true) where
    abbrev new : List ℕ
    new = set lists (9216 + count) (512 + n)

    here : active_at new count ≡ 512 + n
    here = let f = A.few in let g = A.long in get_or-set_same lists (9216 + count) (512 + n) 0 (omega arith)

    kept : (i : ℕ) → i < count → active_at new i ≡ active_at lists i
    kept i l = get_or-set_other lists (9216 + count) (9216 + i) (512 + n) 0 (λ (e : 9216 + i ≡ 9216 + count). omega arith)

    pub actives-next : Actives (n + 1) nodes (count + 1) old (set lists (9216 + count) (512 + n))
    actives-next =
        record {
          few = let f = A.few in omega arith;
          long = length-set lists (9216 + count) (512 + n) ∙ A.long;
          places = λ i l.
              ⊎_elim
              (λ h. ap (within (n + 1)) (kept i h) ∙ within_more n (n + 1) (active_at lists i) (omega arith) (A.places i h))
              (λ h. let e : i ≡ count = omega arith in rw e (ap (within (n + 1)) here ∙ within_by (n + 1) (512 + n) (omega arith) (omega arith)))
              (order i count);
          active = λ i l.
              ⊎_elim
              (λ h. ap (λ (x : ℕ). active_of (get_or nodes x 0)) (kept i h) ∙ A.active i h)
              (λ h. let e : i ≡ count = omega arith in rw e (ap (λ (x : ℕ). active_of (get_or nodes x 0)) here ∙ t))
              (order i count);
          rise = λ i j l m.
              ⊎_elim
              (λ h. let a = kept i (omega arith) in let b = kept j h in let r = A.rise i j l h in omega arith)
              (λ h.
              let e : j ≡ count = omega arith in
              let a = kept i (omega arith) in
              let b : active_at new j ≡ 512 + n = rw e here in
              let r = inside n (active_at lists i) (A.places i (omega arith)) in
              let r1 = r.1 in
              omega arith)
              (order j count);
          all = λ x w s.
              let r = inside (n + 1) x w in
              let r0 = r.0 in
              let r1 = r.1 in
              ⊎_elim
              (λ h. named-longer (active_at lists) (active_at new) count (count + 1) x (omega arith) kept (A.all x (within_by n x r0 h) s))
              (λ h. let e : 512 + n ≡ x = omega arith in named_in (active_at new) count (count + 1) x (omega arith) (eq-eqb _ _ (here ∙ e)))
              (order x (512 + n));
          before = λ i l. get_or-set_other lists (9216 + count) i (512 + n) 0 (λ (e : i ≡ 9216 + count). omega arith) ∙ A.before i l;
        }

-- THE LOOPS: of a part that begins behind the first ones, the next node
module _ (first i : ℕ) (nodes : List ℕ) (count : ℕ) (old lists : List ℕ) (A : Actives (first + i) nodes count old lists) (x : ℕ) (px : x ≡ 512 + first + i) where
  abbrev onward : first + i + 1 ≡ first + (i + 1)
  onward = omega arith

  abbrev there : x ≡ 512 + (first + i)
  there = omega arith

  pub part-next : length old ≡ 13824 → first + i < 3600 → active_of (get_or nodes x 0) ≡ true → Actives (first + (i + 1)) nodes (count + 1) old (set lists (9216 + count) x)
  part-next size small t =
      subst (λ (n : ℕ). Actives n nodes (count + 1) old (set lists (9216 + count) x)) onward
      (subst (λ (y : ℕ). Actives (first + i + 1) nodes (count + 1) old (set lists (9216 + count) y)) (sym there)
      (actives-next (first + i) nodes count old lists A size small (ap (λ (y : ℕ). active_of (get_or nodes y 0)) (sym there) ∙ t)))

  pub part-past : active_of (get_or nodes x 0) ≡ false → Actives (first + (i + 1)) nodes count old lists
  part-past f =
      subst (λ (n : ℕ). Actives n nodes count old lists) onward
      (actives-idle (first + i) nodes count old lists A 1
      (λ j h. let e : 512 + (first + i) + j ≡ x = omega arith in ap (λ (y : ℕ). active_of (get_or nodes y 0)) e ∙ f))

-- a part with no active node
pub part-idle : (n m at : ℕ) (nodes : List ℕ) (count : ℕ) (old lists : List ℕ) → Actives n nodes count old lists → m ≤ 64 → at ≡ 512 + n → any 64 (λ i. active_of (get_or nodes (at + i) 0)) ≡ false
    → Actives (n + m) nodes count old lists
part-idle n m at nodes count old lists A l p f =
    actives-idle n nodes count old lists A m
    (λ i h. let e : 512 + n + i ≡ at + i = omega arith in ap (λ (y : ℕ). active_of (get_or nodes y 0)) e ∙ any-each (λ i. active_of (get_or nodes (at + i) 0)) 64 i f (omega arith))
