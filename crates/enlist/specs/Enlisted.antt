-- LISTS MADE BY A LOOP that pushes some nodes: the list at 0 names what was pushed, and all that it named. Assumes nothing.
use Rattle.std.specs.Prelude.{ℕ, ◌+◌, ◌-◌, ◌≤◌, ◌<◌, ◌≡◌, Bool, true, false, List, eqb}
use Rattle.std.proofs.Common.{arith, sym, ◌∙◌, ap, subst, ⊎_elim}
use Rattle.refusal.specs.Laws.{undone}
use Rattle.shape.specs.Choice.{whether, order}
use Rattle.window.specs.Lists.{any}
use Rattle.closure.specs.Lists.{any_at}
use Rattle.flat.specs.Entries.{within, over_by}
use Rattle.flat.specs.Plan.{Plan}
use Rattle.flat.specs.Step.{named, list_at, Places}
use Rattle.queue.specs.Queue.{Queue, Extends, Pushed, Opened, Inside}
use Rattle.queue.specs.LawsNamed.{extends-none, extends-named, extends-on}

-- where a test over a part found none, none passes
pub none_passes : (f : ℕ → Bool) (m : ℕ) → any m f ≡ false → (j : ℕ) → j < m → f j ≡ false
none_passes f m e j l = whether (f j) (λ t. absurd (undone (sym (any_at f m j l t) ∙ e))) (λ t. t)

-- an entry of a part that begins behind the margin
pub behind : {A : Type 0} (f : ℕ → A) (i j : ℕ) → f (512 + (i + j)) ≡ f (512 + i + j)
behind f i j = let e : 512 + (i + j) ≡ 512 + i + j = omega arith in ap f e

-- what every such loop keeps, of a list that had so many entries
pub record Listing (n start : ℕ) (old : List ℕ) (q : ℕ) (lists : List ℕ) (queued : List Bool) : Type 0 where
  pub queue : Queue 0 q lists queued
  pub extends : Extends 0 start q old lists
  pub places : Places n q (list_at lists 0)

-- of the first entries x 0, x 1, .. those that pass the test were pushed
pub record Enlisted (n start : ℕ) (old : List ℕ) (test : ℕ → Bool) (x : ℕ → ℕ) (i q : ℕ) (lists : List ℕ) (queued : List Bool) : Type 0 where
  pub listing : Listing n start old q lists queued
  pub names : (j : ℕ) → j < i → test j ≡ true → named (list_at lists 0) q (x j) ≡ true

-- those that pass the test were pushed, with what lies over their open edges
pub record Spread (P : Plan) (growth : ℕ → ℕ) (n start : ℕ) (old : List ℕ) (test : ℕ → Bool) (x : ℕ → ℕ) (i q : ℕ) (lists : List ℕ) (queued : List Bool) : Type 0 where
  pub listing : Listing n start old q lists queued
  pub self : (j : ℕ) → j < i → test j ≡ true → named (list_at lists 0) q (x j) ≡ true
  pub near : (j k : ℕ) → j < i → k < P.dirs → test j ≡ true → eqb (growth (over_by (x j) (P.slot k))) 2 ≡ true → named (list_at lists 0) q (over_by (x j) (P.off k)) ≡ true

module _ (n start : ℕ) (old : List ℕ) where
  none-listed : (queued : List Bool) → Queue 0 start old queued → Places n start (list_at old 0) → Listing n start old start old queued
  none-listed queued q p = record { queue = q; extends = extends-none 0 start old; places = p }

  module _ (q : ℕ) (lists : List ℕ) (queued : List Bool) (L : Listing n start old q lists queued) (more : ℕ) (lists' : List ℕ) (queued' : List Bool) where
    on-pushed : (y : ℕ) → within n y ≡ true → Pushed y 0 q more lists lists' queued' → Listing n start old more lists' queued'
    on-pushed y w p = record { queue = p.queue; extends = extends-on 0 start q old lists L.extends more lists' p.extends; places = p.places n w L.places }

    on-opened : (P : Plan) (growth : ℕ → ℕ) (y dirs : ℕ) → within n y ≡ true → Inside P growth y dirs n → Opened P growth y dirs 0 q more lists lists' queued' → Listing n start old more lists' queued'
    on-opened P growth y dirs w s p = record { queue = p.queue; extends = extends-on 0 start q old lists L.extends more lists' p.extends; places = p.places n w s L.places }

  module _ (test : ℕ → Bool) (x : ℕ → ℕ) where
    pub enlisted-none : (queued : List Bool) → Queue 0 start old queued → Places n start (list_at old 0) → Enlisted n start old test x 0 start old queued
    enlisted-none queued q p = record { listing = none-listed queued q p; names = λ j l. absurd (omega arith) }

    module _ (i q : ℕ) (lists : List ℕ) (queued : List Bool) (E : Enlisted n start old test x i q lists queued) where
      pub enlisted-all : (m : ℕ) → i ≤ m → m ≤ i → Enlisted n start old test x m q lists queued
      enlisted-all m a b = let e : i ≡ m = omega arith in rw e at E

      pub enlisted-past : test i ≡ false → Enlisted n start old test x (i + 1) q lists queued
      enlisted-past f =
          record {
            listing = E.listing;
            names = λ j l t. ⊎_elim (λ h. E.names j h t) (λ h. let e : j ≡ i = omega arith in absurd (undone (sym t ∙ rw e f))) (order j i);
          }

      -- a part in which none passes, and a part that was gone through
      pub enlisted-skip : (m : ℕ) → ((j : ℕ) → j < m → test (i + j) ≡ false) → Enlisted n start old test x (i + m) q lists queued
      enlisted-skip m f =
          record {
            listing = E.listing;
            names = λ j l t.
                ⊎_elim (λ h. E.names j h t)
                (λ h. let e : i + (j - i) ≡ j = omega arith in absurd (undone (sym t ∙ ap test (sym e) ∙ f (j - i) (omega arith))))
                (order j i);
          }

      pub enlisted-part : (m : ℕ) (passes : ℕ → Bool) (y : ℕ → ℕ) → ((j : ℕ) → passes j ≡ test (i + j)) → ((j : ℕ) → y j ≡ x (i + j)) → (more : ℕ) (lists' : List ℕ) (queued' : List Bool)
          → Enlisted n q lists passes y m more lists' queued' → Enlisted n start old test x (i + m) more lists' queued'
      enlisted-part m passes y same_test same-entry more lists' queued' D =
          record {
            listing =
                record {
                  queue = D.listing.queue;
                  extends = extends-on 0 start q old lists E.listing.extends more lists' D.listing.extends;
                  places = D.listing.places;
                };
            names = λ j l t.
                ⊎_elim (λ h. extends-named 0 q more lists lists' D.listing.extends (x j) (E.names j h t))
                (λ h.
                let e : i + (j - i) ≡ j = omega arith in
                subst (λ (v : ℕ). named (list_at lists' 0) more v ≡ true) (same-entry (j - i) ∙ ap x e) (D.names (j - i) (omega arith) (same_test (j - i) ∙ ap test e ∙ t)))
                (order j i);
          }

      pub enlisted-next : (y : ℕ) → y ≡ x i → within n (x i) ≡ true → (more : ℕ) (lists' : List ℕ) (queued' : List Bool) → Pushed y 0 q more lists lists' queued'
          → Enlisted n start old test x (i + 1) more lists' queued'
      enlisted-next y e w more lists' queued' p =
          let still = extends-named 0 q more lists lists' p.extends in
          record {
            listing = on-pushed q lists queued E.listing more lists' queued' y (ap (within n) e ∙ w) p;
            names = λ j l t.
                ⊎_elim
                (λ h. still (x j) (E.names j h t))
                (λ h. let f : j ≡ i = omega arith in subst (λ (v : ℕ). named (list_at lists' 0) more v ≡ true) (e ∙ ap x (sym f)) p.self)
                (order j i);
          }

  module _ (P : Plan) (growth : ℕ → ℕ) (test : ℕ → Bool) (x : ℕ → ℕ) where
    pub spread_none : (queued : List Bool) → Queue 0 start old queued → Places n start (list_at old 0) → Spread P growth n start old test x 0 start old queued
    spread_none queued q p = record { listing = none-listed queued q p; self = λ j l. absurd (omega arith); near = λ j k l. absurd (omega arith) }

    module _ (i q : ℕ) (lists : List ℕ) (queued : List Bool) (E : Spread P growth n start old test x i q lists queued) where
      pub spread-all : (m : ℕ) → i ≤ m → m ≤ i → Spread P growth n start old test x m q lists queued
      spread-all m a b = let e : i ≡ m = omega arith in rw e at E

      pub spread-past : test i ≡ false → Spread P growth n start old test x (i + 1) q lists queued
      spread-past f =
          record {
            listing = E.listing;
            self = λ j l t. ⊎_elim (λ h. E.self j h t) (λ h. let e : j ≡ i = omega arith in absurd (undone (sym t ∙ rw e f))) (order j i);
            near = λ j k l m t. ⊎_elim (λ h. E.near j k h m t) (λ h. let e : j ≡ i = omega arith in absurd (undone (sym t ∙ rw e f))) (order j i);
          }

      pub spread-skip : (m : ℕ) → ((j : ℕ) → j < m → test j ≡ false) → Spread P growth n start old test x m q lists queued
      spread-skip m f =
          record { listing = E.listing; self = λ j l t. absurd (undone (sym t ∙ f j l)); near = λ j k l h t. absurd (undone (sym t ∙ f j l)) }

      pub spread-next : (y : ℕ) → y ≡ x i → within n (x i) ≡ true → Inside P growth (x i) P.dirs n → (more : ℕ) (lists' : List ℕ) (queued' : List Bool)
          → Opened P growth y P.dirs 0 q more lists lists' queued' → Spread P growth n start old test x (i + 1) more lists' queued'
      spread-next y e w s more lists' queued' p =
          let still = extends-named 0 q more lists lists' p.extends in
          record {
            listing = on-opened q lists queued E.listing more lists' queued' P growth y P.dirs (ap (within n) e ∙ w) (subst (λ (v : ℕ). Inside P growth v P.dirs n) (sym e) s) p;
            self = λ j l t.
                ⊎_elim
                (λ h. still (x j) (E.self j h t))
                (λ h. let f : j ≡ i = omega arith in subst (λ (v : ℕ). named (list_at lists' 0) more v ≡ true) (e ∙ ap x (sym f)) p.self)
                (order j i);
            near = λ j k l m t o.
                ⊎_elim
                (λ h. still (over_by (x j) (P.off k)) (E.near j k h m t o))
                (λ h.
                let f : y ≡ x j = let g : i ≡ j = omega arith in e ∙ ap x g in
                subst (λ (v : ℕ). named (list_at lists' 0) more (over_by v (P.off k)) ≡ true) f
                (p.near k m (ap (λ (v : ℕ). eqb (growth (over_by v (P.slot k))) 2) f ∙ o)))
                (order j i);
          }
