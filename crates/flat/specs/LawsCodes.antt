-- What was written as a number is read back. Assumes nothing.
use Rattle.std.specs.Prelude.{ℕ, ◌/◌, ◌%◌, ◌<◌, ◌≡◌, refl, Bool, true, false, eqb}
use Rattle.std.proofs.Common.{arith, ne_eqb}
use Rattle.window.specs.Lists.{bit}
use Rattle.window.specs.declared.Mark.{Mark}
use Rattle.window.specs.declared.Mark.TheVariants.{Reset, Root}
use Rattle.window.specs.LawsLists.{bit-most}
use Rattle.window.specs.declared.Node.{Node}
use Rattle.flat.specs.Codes.{node_code, active_of, defect_of, unrooted_of, pointer_of, reset_code, mark_of, mark_code, node_of, edge_code, growth_of, correction_of}

pub bit_is : (b : Bool) → eqb (bit b) 1 ≡ b
bit_is true = refl
bit_is false = refl

module _ (a d u : Bool) (p : ℕ) where
  pub node-active : active_of (node_code a d u p) ≡ a
  node-active = let e : node_code a d u p % 2 ≡ bit a = omega (arith, bit-most a) in rw e (bit_is a)

  pub node-defect : defect_of (node_code a d u p) ≡ d
  node-defect = let e : node_code a d u p / 2 % 2 ≡ bit d = omega (arith, bit-most a, bit-most d) in rw e (bit_is d)

  pub node-unrooted : unrooted_of (node_code a d u p) ≡ u
  node-unrooted = let e : node_code a d u p / 4 % 2 ≡ bit u = omega (arith, bit-most a, bit-most d, bit-most u) in rw e (bit_is u)

  pub node-pointer : pointer_of (node_code a d u p) ≡ p
  node-pointer = omega (arith, bit-most a, bit-most d, bit-most u)

pub mark-back : (m : Mark) → ((r : ℕ) → m ≡ Root r → r < reset_code) → mark_of (mark_code m) ≡ m
mark-back Reset l = refl
mark-back (Root r) l = let h = l r refl in let e = ne_eqb r reset_code (λ (x : r ≡ 65535). omega arith) in rw e

pub node-back : (n : Node) → ((r : ℕ) → n.mark ≡ Root r → r < reset_code) → node_of (node_code n.active n.defect n.unrooted n.pointer) (mark_code n.mark) ≡ n
node-back n l =
    let a = node-active n.active n.defect n.unrooted n.pointer in
    let d = node-defect n.active n.defect n.unrooted n.pointer in
    let u = node-unrooted n.active n.defect n.unrooted n.pointer in
    let p = node-pointer n.active n.defect n.unrooted n.pointer in
    let m = mark-back n.mark l in
    rw (a, d, u, p, m)

module _ (g : ℕ) (c : Bool) (low : g < 4) where
  pub edge-growth : growth_of (edge_code g c) ≡ g
  edge-growth = omega (arith, bit-most c)

  pub edge-correction : correction_of (edge_code g c) ≡ c
  edge-correction = let e : edge_code g c / 4 ≡ bit c = omega (arith, bit-most c) in rw e (bit_is c)
