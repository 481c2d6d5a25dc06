-- Where no node has anything left to do, the clusters are at rest. Assumes nothing.
use Rattle.std.specs.Prelude.{ℕ, ◌≤◌, ◌<◌, ◌≡◌, refl, true}
use Rattle.std.proofs.Common.{arith, sym, ◌∙◌, ap}
use Rattle.window.specs.declared.Mark.TheVariants.{Root}
use Rattle.law_holds.specs.Graph.{Graph, Laws, State, hot, Chain, here, via, Connected, same, over, Inv, Calm}

-- node v sees no lower mark and sends no defect, and its activity is what its pointer says
pub record Quiet (g : Graph) (s : State) (v : ℕ) : Type 0 where
  pub m : ℕ
  pub mark : s.mark v ≡ Root m
  pub least : (p a : ℕ) → g.opn v p ≡ true → s.mark (g.nb v p) ≡ Root a → m ≤ a
  pub defect : hot g s v ≡ true → s.pointer v ≡ 0
  pub centre : s.pointer v ≡ 0 → s.active v ≡ hot g s v
  pub along : g.opn v (s.pointer v) ≡ true → s.active v ≡ s.active (g.nb v (s.pointer v))

module _ (g : Graph) (L : Laws g) (s : State) (I : Inv g s) (Q : (v : ℕ) → v < g.n → Quiet g s v) where
  same-mark : (v p : ℕ) → v < g.n → g.opn v p ≡ true → s.mark (g.nb v p) ≡ s.mark v
  same-mark v p hv o =
      let x = Q v hv in
      let y = Q (g.nb v p) (L.within v p hv o) in
      let i : x.m ≤ y.m = x.least p y.m o y.mark in
      let j : y.m ≤ x.m = y.least (g.back p) x.m (L.back-opn v p hv o) (rw (L.back-nb v p hv o) x.mark) in
      let q : y.m ≡ x.m = omega arith in
      y.mark ∙ ap Root q ∙ sym x.mark

  connected-mark : {v u : ℕ} → Connected g v u → v < g.n → (u < g.n) × (s.mark u ≡ s.mark v)
  connected-mark same hv = (hv, refl)
  connected-mark (over {v = v} {p = p} o t) hv =
      let i = connected-mark t (L.within v p hv o) in
      (i.0, i.1 ∙ same-mark v p hv o)

  -- what holds along a chain
  record Ended (v r : ℕ) : Type 0 where
    joined : Connected g v r
    centre : s.pointer r ≡ 0
    active : s.active v ≡ hot g s r

  ended : {v r : ℕ} → Chain g s v r → v < g.n → Ended v r
  ended (here {v = v} e) hv = record { joined = same; centre = e; active = (Q v hv).centre e }
  ended (via {v = v} np t) hv =
      let o = I.pointer-opn v hv np in
      let i = ended t (L.within v (s.pointer v) hv o) in
      record { joined = over o i.joined; centre = i.centre; active = (Q v hv).along o ∙ i.active }

  pub calm : Calm g s
  calm v hv =
      let r : ℕ = (I.chain v hv).0 in
      let e = ended (I.chain v hv).1 hv in
      let j = connected-mark e.joined hv in
      let x = Q r j.0 in
      let m : s.mark v ≡ Root (g.num r) = sym j.1 ∙ x.mark ∙ ap Root (I.root-mark r x.m j.0 x.mark e.centre) in
      record {
        root = r;
        inside = j.0;
        chain = (I.chain v hv).1;
        joined = e.joined;
        centre = e.centre;
        mark = m;
        least = λ u c. let k = connected-mark c hv in I.mark-le u (g.num r) k.0 (k.1 ∙ m);
        only = λ u c z. let k = connected-mark c hv in L.num-inj u r k.0 j.0 (sym (I.root-mark u (g.num r) k.0 (k.1 ∙ m) z));
        across = λ p o. same-mark v p hv o;
        opn = I.pointer-opn v hv;
        defect = (Q v hv).defect;
        active = e.active;
      }
