-- Calls that begin with the tests of a shape and an offset: what those come to, and how a writer goes on. Assumes nothing.
use Prim.Native.Nat.{ℕ, ◌+◌, ◌≤◌}
use mathlib.Core.Path.{◌≡◌, sym, ◌∙◌, ap}
use mathlib.Core.Bool.{Bool}
use mathlib.Core.List.{List, ◌++◌}
use borrow.Author.Tests.{leb-true}
use lib.Dec.{leb}
use lib.ListN.{length}
use Rattle.refusal.specs.Answer.{unless, done, refused, turned}
use Rattle.refusal.specs.Tests.{Passes, Turned, tests-fine, tests-turned, passes-last, pass-append, turned-first, turned-after}
use Rattle.refusal.specs.Writing.{Buffered, buffered, writing, put_to, front}
use Rattle.refusal.specs.Filling.{writing-turned}
use Rattle.refusal.specs.Tails.{tail, put_back, wrote_none, wrote-inside, wrote-some}
use Rattle.refusal.specs.declared.Refusal.{Refusal}
use Rattle.shape.specs.Sizes.{shape_tests, tested_answer}
use Rattle.shape.specs.declared.Shape.{Shape}
use Rattle.std.specs.Prelude.{Option, Some, None, Result, Ok, Err}
use Rattle.record.specs.Calls.{place_tests}

module _ (sh : Shape) (len at : ℕ) (r : Result (Unit {0}) Refusal) (e : tested_answer r ≡ unless (place_tests sh len at) (done tt 0)) where
  pub place-turned : (f : Refusal) → r ≡ Err f → Turned (place_tests sh len at) f
  place-turned f k = tests-turned (place_tests sh len at) tt 0 f (sym e ∙ ap tested_answer k)

  module _ (k : r ≡ Ok tt) where
    pub place-passes : Passes (place_tests sh len at)
    place-passes = tests-fine (place_tests sh len at) (sym e ∙ ap tested_answer k)

    pub place_inside : at ≤ len
    place_inside = leb-true at len (passes-last (shape_tests sh.height sh.distance sh.model) (leb at len) 10 (sym e ∙ ap tested_answer k))

-- a writer of so many bytes, with more tests of its own
module _ (sh : Shape) (old : List ℕ) (at : ℕ) (r : Result (Unit {0}) Refusal) (e : tested_answer r ≡ unless (place_tests sh (length old) at) (done tt 0)) (more : List (Bool × ℕ))
    (bytes : List ℕ) where
  abbrev call : Buffered
  call = writing (place_tests sh (length old) at ++ more) old at bytes

  pub writer-misplaced : (f : Refusal) → r ≡ Err f → buffered (turned f) old ≡ call
  writer-misplaced f k =
      writing-turned (place_tests sh (length old) at ++ more) old at bytes f (turned-first (place_tests sh (length old) at) more f (place-turned sh (length old) at r e f k))

  module _ (k : r ≡ Ok tt) where
    pub writer-turned : (f : Refusal) → Turned more f → buffered (turned f) old ≡ call
    writer-turned f h =
        writing-turned (place_tests sh (length old) at ++ more) old at bytes f
        (turned-after (place_tests sh (length old) at) more f (place-passes sh (length old) at r e k) h)

    module _ (h : Passes more) (count : Option ℕ) (last : List ℕ) (put : put_to count last ≡ front (tail old at) bytes) where
      inside : at ≤ length old
      inside = place_inside sh (length old) at r e k

      passes : Passes (place_tests sh (length old) at ++ more)
      passes = pass-append (place_tests sh (length old) at) more (place-passes sh (length old) at r e k) h

      pub writer-full : count ≡ None → buffered (refused 11) (put_back old at last) ≡ call
      writer-full z = wrote_none (place_tests sh (length old) at ++ more) old at inside bytes count last put passes z

      module _ (n : ℕ) (z : count ≡ Some n) where
        pub writer-inside : at + n ≤ length old
        writer-inside = wrote-inside (place_tests sh (length old) at ++ more) old at inside bytes count last put passes n z

        pub writer-done : buffered (done tt (at + n)) (put_back old at last) ≡ call
        writer-done = wrote-some (place_tests sh (length old) at ++ more) old at inside bytes count last put passes n z
