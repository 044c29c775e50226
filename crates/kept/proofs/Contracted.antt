-- Each contract is an equation for the result, and the answers are its right-hand sides.
use mathlib.Core.Path.{◌≡◌}
use Prim.Native.Nat.{ℕ, ◌+◌}
use native.Mathlib.Nat.{mod-eq_of_lt}
use native.Mathlib.Omega.{arith}
use Rattle.device.specs.declared.Device.{Device}
use Rattle.image.specs.Walk.{walk, begin_of}
use Rattle.kept.specs.Contracted.{Contracted}

-- as far into the image as after it
same_begin : (place a b : ℕ) → place + a ≡ place + b → b ≡ a
same_begin place a b e = omega (arith, e)

pub contracted : (d : Device) → Contracted d
contracted d =
    record {
      fresh = λ r c. rw c.result;
      sdo = λ request room left r c. rw (c.result, c.bytes);
      control = λ word r h c. rw (mod-eq_of_lt h, c.result);
      fault = λ code r h c. rw (mod-eq_of_lt h, c.result);
      tick = λ r c. rw c.result;
      jump = λ n r c. rw c.result;
      state = λ r c. rw c.result;
      status = λ r c. rw c.result;
      error = λ r c. rw c.result;
      position = λ r c. rw c.result;
      target = λ r c. rw c.result;
      command = λ r c. rw c.result;
      ticks_to_go = λ r c. rw c.result;
      receive = λ pdo r c. rw c.result;
      send = λ room left r c. rw (c.result, c.bytes);
      store = λ room left r c. rw (c.result, c.bytes);
      load = λ bytes r c. rw c.result;
      find = λ bytes tag number memory memory' place begin part c n.
          rw (n.result, c.bytes, ← same_begin place begin (begin_of (walk bytes tag)) c.begins);
    }
