-- A node pushed, and what lies over its open edges. Assumes nothing.
use Rattle.std.specs.Prelude.{ℕ, ◌+◌, ◌≤◌, ◌<◌, ◌≡◌, Bool, true, false, not, List, eqb, get_or, set, length}
use Rattle.std.proofs.Common.{arith, sym, ◌∙◌, ap, subst, ⊎_elim, eq-eqb, eqb-true, length-set, get_or-set_same, get_or-set_other}
use Rattle.std.proofs.lemmas.Bool.{eqb-false, not-true, not-false}
use Rattle.shape.specs.Choice.{whether, order}
use Rattle.flat.specs.Entries.{within, over_by}
use Rattle.flat.specs.Plan.{Plan}
use Rattle.flat.specs.Step.{named, list_at}
use Rattle.queue.specs.Queue.{Queue, Extends, Pushed, Inside, Opened}
use Rattle.queue.specs.LawsTrues.{trues-set, queue-room}
use Rattle.queue.specs.LawsNamed.{named_in, extends-none, extends-named, extends-on}

module _ (x from count : ℕ) (lists : List ℕ) (queued : List Bool) (low : x < 4608) (half : from ≤ 9216) (q : Queue from count lists queued) where
  pub pushed-before : get_or queued x false ≡ true → Pushed x from count count lists lists queued
  pushed-before t = record { queue = q; extends = extends-none from count lists; self = q.known x t; places = λ n w p. p }

  module _ (t : get_or queued x false ≡ false) where
    abbrev new : List ℕ
    new = set lists (from + count) x

    at : from + count < length lists
    at = let r = queue-room q x low t in omega (arith, r, q.long)

    grows : Extends from count (count + 1) lists new
    grows =
        let r = queue-room q x low t in
        record {
          longer = omega arith;
          kept = λ i h. get_or-set_other lists (from + count) i x 0 (λ (e : i ≡ from + count). omega arith);
          behind = λ i h. get_or-set_other lists (from + count) i x 0 (λ (e : i ≡ from + count). omega arith);
        }

    here : get_or new (from + count) 0 ≡ x
    here = get_or-set_same lists (from + count) x 0 at

    names : named (list_at new from) (count + 1) x ≡ true
    names = named_in (list_at new from) count (count + 1) x (omega arith) (eq-eqb _ _ here)

    pub pushed-now : Pushed x from count (count + 1) lists new (set queued x true)
    pushed-now =
        record {
          queue =
              record {
                long = length-set lists (from + count) x ∙ q.long;
                wide = length-set queued x true ∙ q.wide;
                few = let e = trues-set queued x (omega (arith, q.wide)) t in omega (arith, e, q.few);
                known = λ y k.
                    whether (eqb x y)
                    (λ s. let e : x ≡ y = eqb-true _ _ s in subst (λ (i : ℕ). named (list_at new from) (count + 1) i ≡ true) e names)
                    (λ s. extends-named from count (count + 1) lists new grows y (q.known y (sym (get_or-set_other queued x y true false (λ e. eqb-false _ _ s (sym e))) ∙ k)));
              };
          extends = grows;
          self = names;
          places = λ n w p i h.
              ⊎_elim
              (λ l. ap (λ (y : ℕ). within n y) (grows.kept (from + i) (omega arith)) ∙ p i l)
              (λ l. let e : i ≡ count = omega arith in rw e (ap (λ (y : ℕ). within n y) here ∙ w))
              (order i count);
        }

-- OVER THE DIRECTIONS

module _ (P : Plan) (growth : ℕ → ℕ) (x from count : ℕ) (old : List ℕ) where
  pub opened-first : (more : ℕ) (lists : List ℕ) (queued : List Bool) → Pushed x from count more old lists queued → Opened P growth x 0 from more more lists lists queued
  opened-first more lists queued p =
      record { queue = p.queue; extends = extends-none from more lists; self = p.self; near = λ k h t. absurd (omega arith); places = λ n w s r. r }

  -- by what the code found: o is whether the edge at e is open
  module _ (k q : ℕ) (lists : List ℕ) (queued : List Bool) (r : Opened P growth x k from count q old lists queued) (e : ℕ) (o : Bool) (pe : e ≡ over_by x (P.slot k)) (po : o ≡ eqb (growth e) 2) where
    told : o ≡ eqb (growth (over_by x (P.slot k))) 2
    told = po ∙ ap (λ (i : ℕ). eqb (growth i) 2) pe

    fewer : (n : ℕ) → Inside P growth x (k + 1) n → Inside P growth x k n
    fewer n s i h = s i (omega arith)

    pub opened-closed : not o ≡ true → Opened P growth x (k + 1) from count q old lists queued
    opened-closed t =
        record {
          queue = r.queue;
          extends = r.extends;
          self = r.self;
          near = λ i h u.
              ⊎_elim
              (λ l. r.near i l u)
              (λ l.
              let y : i ≡ k = omega arith in
              let a : eqb (growth (over_by x (P.slot k))) 2 ≡ true = rw y at u in
              let b : eqb (growth (over_by x (P.slot k))) 2 ≡ false = sym told ∙ not-true o t in
              absurd (let z : ◌≡◌ {A = ℕ} 0 1 = cc in omega arith))
              (order i k);
          places = λ n w s p. r.places n w (fewer n s) p;
        }

    pub opened-open : not o ≡ false → (j : ℕ) → j ≡ over_by x (P.off k) → (more : ℕ) (lists' : List ℕ) (queued' : List Bool) → Pushed j from q more lists lists' queued'
        → Opened P growth x (k + 1) from count more old lists' queued'
    opened-open t j pj more lists' queued' p =
        let still = extends-named from q more lists lists' p.extends in
        record {
          queue = p.queue;
          extends = extends-on from count q old lists r.extends more lists' p.extends;
          self = still x r.self;
          near = λ i h u.
              ⊎_elim
              (λ l. still (over_by x (P.off i)) (r.near i l u))
              (λ l.
              let y : i ≡ k = omega arith in
              subst (λ (i : ℕ). named (list_at lists' from) more i ≡ true) (pj ∙ ap (λ (i : ℕ). over_by x (P.off i)) (sym y)) p.self)
              (order i k);
          places = λ n w s u.
              p.places n (ap (λ (i : ℕ). within n i) pj ∙ s k (omega arith) (sym told ∙ not-false o t)) (r.places n w (fewer n s) u);
        }

  -- all directions are passed
  pub opened-all : (more most dirs k : ℕ) (lists lists' : List ℕ) (queued queued' : List Bool) → dirs ≤ k → k ≤ dirs → Pushed x from count more old lists queued
      → Opened P growth x k from more most lists lists' queued' → Opened P growth x dirs from count most old lists' queued'
  opened-all more most dirs k lists lists' queued queued' a b p r =
      record {
        queue = r.queue;
        extends = extends-on from count more old lists p.extends most lists' r.extends;
        self = r.self;
        near = λ i h t. r.near i (omega arith) t;
        places = λ n w s u. r.places n w (λ i h t. s i (omega arith) t) (p.places n w u);
      }
