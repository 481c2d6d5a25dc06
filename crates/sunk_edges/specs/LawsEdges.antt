-- Laws of a round's edges: one kind, then the next, and what is read of each. Assumes nothing.
use Rattle.std.specs.Prelude.{ℕ, ◌+◌, ◌-◌, ◌*◌, ◌/◌, ◌≤◌, ◌<◌, ◌≡◌, refl, Bool, true, false, ◌&&◌, List, ◌⊎◌, ltb, length, get_or}
use Rattle.std.proofs.Common.{arith, ap, sym, ◌∙◌, inl, inr, ⊎_elim, lt-ltb, le-ltb, eq-eqb, ne_eqb}
use Rattle.shape.specs.Choice.{if, whether, order}
use Rattle.flat.specs.Codes.{no_edge, growth_of, correction_of}
use Rattle.flat.specs.Entries.{plane, planes, entry, cell, within}
use Rattle.flat.specs.LawsEntries.{outside}
use Rattle.flat.specs.Plan.{template_in}
use Rattle.flat.specs.Stored.{stored, length-stored, stored_at, stored-before, stored-behind}
use Rattle.sunk_edges.specs.Edges.{rises_in, fresh_on, sunk_edge, Sank}

-- THE THREE WAYS to lay a kind's new edges
module _ (table : List ℕ) (second : Bool) (sheet kind : ℕ) (l top next : List ℕ) where
  pub lays-level : (get_or table (160 + kind) 0 ≡ 1 → ⊥) → next ≡ stored (kind * plane + 512) (template_in table kind) sheet l → next ≡ fresh_on table second sheet kind l
  lays-level u e = let r = ne_eqb (get_or table (160 + kind) 0) 1 u in e ∙ (rw r)

  module _ (u : get_or table (160 + kind) 0 ≡ 1) (f : top ≡ stored (kind * plane + 512) (λ i. 3) sheet l) where
    pub lays-second : second ≡ true → next ≡ stored (kind * plane + 512 + sheet) (template_in table kind) sheet top → next ≡ fresh_on table second sheet kind l
    lays-second s e = let r = eq-eqb (get_or table (160 + kind) 0) 1 u in e ∙ ap (λ (x : List ℕ). stored (kind * plane + 512 + sheet) (template_in table kind) sheet x) f ∙ (rw (r, s))

    pub lays-first : second ≡ false → top ≡ fresh_on table second sheet kind l
    lays-first s = let r = eq-eqb (get_or table (160 + kind) 0) 1 u in f ∙ (rw (r, s))

module _ (table : List ℕ) (second : Bool) (n sheet : ℕ) (old : List ℕ) where
  -- ONE KIND
  module _ (kind : ℕ) (small : kind < 6) (most : n ≤ 3600) (two : 2 * sheet ≤ n) (now : List ℕ) (size : length now ≡ planes) where
    abbrev b : ℕ
    b = kind * plane + 512

    abbrev fresh : ℕ → ℕ
    fresh = template_in table kind

    abbrev none : ℕ → ℕ
    none i = no_edge

    abbrev lower : ℕ → ℕ
    lower i = get_or old (b + i) 0

    abbrev mid : List ℕ
    mid = stored (b + sheet) lower (n - sheet) now

    mid-long : length mid ≡ planes
    mid-long = length-stored (b + sheet) lower (n - sheet) now ∙ size

    mid_at : (a : ℕ) → a + sheet < n → get_or mid (b + (a + sheet)) 0 ≡ get_or old (cell kind (entry a)) 0
    mid_at a l =
        let e : b + (a + sheet) ≡ b + sheet + a = omega arith in
        let f : b + a ≡ cell kind (entry a) = omega arith in
        ap (λ (x : ℕ). get_or mid x 0) e ∙ stored_at (b + sheet) lower (n - sheet) now 0 a (omega arith) (omega arith) ∙ ap (λ (x : ℕ). get_or old x 0) f

    mid-out : (x : ℕ) → (x < b) ⊎ (b + n ≤ x) → get_or mid x 0 ≡ get_or now x 0
    mid-out x o = ⊎_elim (λ l. stored-before (b + sheet) lower (n - sheet) now 0 x (omega arith)) (λ l. stored-behind (b + sheet) lower (n - sheet) now 0 x (omega arith)) o

    -- what stands where, by the three ways to lay the new sheet
    pub kind_at : (g : ℕ) → g < n → get_or (fresh_on table second sheet kind mid) (b + g) 0 ≡ sunk_edge table second 0 n sheet old kind g
    kind_at g l =
        whether (rises_in table kind)
        (λ u. whether second (λ s. rw (u, s) (up_second g l)) (λ s. rw (u, s) (up_first g l)))
        (λ u. rw u (level g l))
      where
        level : (g : ℕ) → g < n → get_or (stored b fresh sheet mid) (b + g) 0 ≡ if (ltb g sheet) (fresh g) (get_or old (cell kind (entry (g - sheet))) 0)
        level g l =
            let long = mid-long in
            ⊎_elim
            (λ y. let t = lt-ltb g sheet y in rw t (stored_at b fresh sheet mid 0 g y (omega arith)))
            (λ y.
            let t = le-ltb g sheet y in
            let e : b + g ≡ b + (g - sheet + sheet) = omega arith in
            rw t (stored-behind b fresh sheet mid 0 (b + g) (omega arith) ∙ ap (λ (x : ℕ). get_or mid x 0) e ∙ mid_at (g - sheet) (omega arith)))
            (order g sheet)

        up_first : (g : ℕ) → g < n → get_or (stored b none sheet mid) (b + g) 0 ≡ if (ltb g sheet) no_edge (get_or old (cell kind (entry (g - sheet))) 0)
        up_first g l =
            let long = mid-long in
            ⊎_elim
            (λ y. let t = lt-ltb g sheet y in rw t (stored_at b none sheet mid 0 g y (omega arith)))
            (λ y.
            let t = le-ltb g sheet y in
            let e : b + g ≡ b + (g - sheet + sheet) = omega arith in
            rw t (stored-behind b none sheet mid 0 (b + g) (omega arith) ∙ ap (λ (x : ℕ). get_or mid x 0) e ∙ mid_at (g - sheet) (omega arith)))
            (order g sheet)

        up_second : (g : ℕ) → g < n
            → get_or (stored (b + sheet) fresh sheet (stored b none sheet mid)) (b + g) 0
            ≡ if (ltb g sheet) no_edge (if (ltb (g - sheet) sheet) (fresh (g - sheet)) (get_or old (cell kind (entry (g - sheet))) 0))
        up_second g l =
            let long = mid-long in
            let longer = length-stored b none sheet mid in
            ⊎_elim
            (λ y. let t = lt-ltb g sheet y in rw t (stored-before (b + sheet) fresh sheet (stored b none sheet mid) 0 (b + g) (omega arith) ∙ stored_at b none sheet mid 0 g y (omega arith)))
            (λ y.
            let t = le-ltb g sheet y in
            let e : b + g ≡ b + sheet + (g - sheet) = omega arith in
            ⊎_elim
            (λ z.
            let u = lt-ltb (g - sheet) sheet z in
            rw (t, u) (ap (λ (x : ℕ). get_or (stored (b + sheet) fresh sheet (stored b none sheet mid)) x 0) e ∙ stored_at (b + sheet) fresh sheet (stored b none sheet mid) 0 (g - sheet) z (omega arith)))
            (λ z.
            let u = le-ltb (g - sheet) sheet z in
            let f : b + g ≡ b + (g - sheet + sheet) = omega arith in
            rw (t, u)
            (stored-behind (b + sheet) fresh sheet (stored b none sheet mid) 0 (b + g) (omega arith)
            ∙ stored-behind b none sheet mid 0 (b + g) (omega arith)
            ∙ ap (λ (x : ℕ). get_or mid x 0) f
            ∙ mid_at (g - sheet) (omega arith)))
            (order (g - sheet) sheet))
            (order g sheet)

    -- the other entries stay
    pub kind-out : (x : ℕ) → (x < b) ⊎ (b + n ≤ x) → get_or (fresh_on table second sheet kind mid) x 0 ≡ get_or now x 0
    kind-out x o =
        whether (rises_in table kind)
        (λ u. whether second (λ s. rw (u, s) (again ∙ over none ∙ mid-out x o)) (λ s. rw (u, s) (over none ∙ mid-out x o)))
        (λ u. rw u (over fresh ∙ mid-out x o))
      where
        over : (f : ℕ → ℕ) → get_or (stored b f sheet mid) x 0 ≡ get_or mid x 0
        over f = ⊎_elim (λ l. stored-before b f sheet mid 0 x l) (λ l. stored-behind b f sheet mid 0 x (omega arith)) o

        again : get_or (stored (b + sheet) fresh sheet (stored b none sheet mid)) x 0 ≡ get_or (stored b none sheet mid) x 0
        again =
            ⊎_elim (λ l. stored-before (b + sheet) fresh sheet (stored b none sheet mid) 0 x (omega arith)) (λ l. stored-behind (b + sheet) fresh sheet (stored b none sheet mid) 0 x (omega arith)) o

    pub kind-long : length (fresh_on table second sheet kind mid) ≡ length now
    kind-long =
        whether (rises_in table kind)
        (λ u.
        whether second
        (λ s. rw (u, s) (length-stored (b + sheet) fresh sheet (stored b none sheet mid) ∙ length-stored b none sheet mid ∙ length-stored (b + sheet) lower (n - sheet) now))
        (λ s. rw (u, s) (length-stored b none sheet mid ∙ length-stored (b + sheet) lower (n - sheet) now)))
        (λ u. rw u (length-stored b fresh sheet mid ∙ length-stored (b + sheet) lower (n - sheet) now))

  -- ALL KINDS, one after the other
  module _ (edges : List ℕ) where
    pub sank-none : Sank table second 0 n sheet old edges edges
    sank-none = record { long = refl; sinks = λ kind g l m. absurd (omega arith); margin = λ kind x l w. refl; behind = λ e l. refl }

    module _ (kind : ℕ) (small : kind < 6) (most : n ≤ 3600) (two : 2 * sheet ≤ n) (now sunk next : List ℕ) (size : length edges ≡ planes)
        (S : Sank table second kind n sheet old edges now) (s : sunk ≡ mid kind small most two now (S.long ∙ size)) (f : next ≡ fresh_on table second sheet kind sunk) where
      e : next ≡ fresh_on table second sheet kind (mid kind small most two now (S.long ∙ size))
      e = f ∙ ap (fresh_on table second sheet kind) s

      at : (x : ℕ) → get_or next x 0 ≡ get_or (fresh_on table second sheet kind (mid kind small most two now (S.long ∙ size))) x 0
      at x = ap (λ (l : List ℕ). get_or l x 0) e

      out : (x : ℕ) → (x < kind * plane + 512) ⊎ (kind * plane + 512 + n ≤ x) → get_or next x 0 ≡ get_or now x 0
      out x o = at x ∙ kind-out kind small most two now (S.long ∙ size) x o

      sinks : (κ g : ℕ) → κ < kind + 1 → g < n → get_or next (cell κ (entry g)) 0 ≡ sunk_edge table second (kind + 1) n sheet old κ g
      sinks κ g l m =
          ⊎_elim
          (λ y. out (cell κ (entry g)) (inl (omega arith)) ∙ S.sinks κ g y m)
          (λ y.
          let q : kind ≡ κ = omega arith in
          let f : cell kind (entry g) ≡ kind * plane + 512 + g = omega arith in
          let r = ap (λ (x : ℕ). get_or next x 0) f ∙ at (kind * plane + 512 + g) ∙ kind_at kind small most two now (S.long ∙ size) g m in
          ap (λ (k : ℕ). get_or next (cell k (entry g)) 0) (sym q) ∙ r ∙ ap (λ (k : ℕ). sunk_edge table second 0 n sheet old k g) q)
          (order κ kind)

      stays : (κ x : ℕ) → x < plane → within n x ≡ false → get_or next (cell κ x) 0 ≡ get_or now (cell κ x) 0
      stays κ x l w =
          ⊎_elim
          (λ y. out (cell κ x) (inl (omega arith)))
          (λ y. ⊎_elim (λ u. ⊎_elim (λ v. out (cell κ x) (inl (omega arith))) (λ v. out (cell κ x) (inr (omega arith))) (outside n x w)) (λ u. out (cell κ x) (inr (omega arith))) (order κ (kind + 1)))
          (order κ kind)

      pub sank-next : Sank table second (kind + 1) n sheet old edges next
      sank-next =
          record {
            long = ap length e ∙ kind-long kind small most two now (S.long ∙ size) ∙ S.long;
            sinks = sinks;
            margin = λ κ x l w. stays κ x l w ∙ S.margin κ x l w;
            behind = λ x l. out x (inr (omega arith)) ∙ S.behind x (omega arith);
          }

-- WHAT IS READ OF THEM

-- a fresh edge has its growth, and no correction
pub fresh-growth : (table : List ℕ) (kind i : ℕ) → growth_of (template_in table kind i) ≡ template_in table kind i
fresh-growth table kind i = omega arith

pub fresh-correction : (table : List ℕ) (kind i : ℕ) → correction_of (template_in table kind i) ≡ false
fresh-correction table kind i = let e : template_in table kind i / 4 ≡ 0 = omega arith in rw e

module _ (table : List ℕ) (second : Bool) (kinds n sheet : ℕ) (old edges edges' : List ℕ) (S : Sank table second kinds n sheet old edges edges') (kind : ℕ) (m : kind < kinds) where
  abbrev after : ℕ → ℕ
  after g = get_or edges' (cell kind (entry g)) 0

  abbrev before : ℕ → ℕ
  before a = get_or old (cell kind (entry a)) 0

  pub flat-top : rises_in table kind ≡ false → (g : ℕ) → g < n → g < sheet → after g ≡ template_in table kind g
  flat-top u g l t = let x = lt-ltb g sheet t in S.sinks kind g m l ∙ (rw (x, u))

  pub flat-low : rises_in table kind ≡ false → (a g : ℕ) → g < n → g ≡ a + sheet → after g ≡ before a
  flat-low u a g l e = let x = le-ltb g sheet (omega arith) in let y : g - sheet ≡ a = omega arith in S.sinks kind g m l ∙ (rw (x, u, y))

  pub up_top : rises_in table kind ≡ true → (g : ℕ) → g < n → g < sheet → after g ≡ no_edge
  up_top u g l t = let x = lt-ltb g sheet t in S.sinks kind g m l ∙ (rw (x, u))

  pub up_second : rises_in table kind ≡ true → (a g : ℕ) → g < n → a < sheet → g ≡ a + sheet → after g ≡ if second (template_in table kind a) (before a)
  up_second u a g l t e =
      let x = le-ltb g sheet (omega arith) in
      let y : g - sheet ≡ a = omega arith in
      let z = lt-ltb a sheet t in
      S.sinks kind g m l ∙ (rw (x, y, u, z) (by second))
    where
      by : (s : Bool) → if (s && true) (template_in table kind a) (before a) ≡ if s (template_in table kind a) (before a)
      by true = refl
      by false = refl

  pub up-low : rises_in table kind ≡ true → (a g : ℕ) → g < n → sheet ≤ a → g ≡ a + sheet → after g ≡ before a
  up-low u a g l t e =
      let x = le-ltb g sheet (omega arith) in
      let y : g - sheet ≡ a = omega arith in
      let z = le-ltb a sheet t in
      S.sinks kind g m l ∙ (rw (x, y, u, z) (by second))
    where
      by : (s : Bool) → if (s && false) (template_in table kind a) (before a) ≡ before a
      by true = refl
      by false = refl

  -- on top nothing is corrected, and below it what was, if nothing was on an old top's edge up
  pub blank : (g : ℕ) → g < n → g < sheet → correction_of (after g) ≡ false
  blank g l t =
      whether (rises_in table kind)
      (λ u. ap correction_of (up_top u g l t))
      (λ u. ap correction_of (flat-top u g l t) ∙ fresh-correction table kind g)

  pub bits : (a g : ℕ) → g < n → g ≡ a + sheet → (rises_in table kind ≡ true → a < sheet → correction_of (before a) ≡ false) → correction_of (after g) ≡ correction_of (before a)
  bits a g l e none =
      whether (rises_in table kind)
      (λ u.
      ⊎_elim
      (λ t.
      ap correction_of (up_second u a g l t e)
      ∙ whether second (λ s. rw s (fresh-correction table kind a ∙ sym (none u t))) (λ s. rw s))
      (λ t. ap correction_of (up-low u a g l t e))
      (order a sheet))
      (λ u. ap correction_of (flat-low u a g l e))
