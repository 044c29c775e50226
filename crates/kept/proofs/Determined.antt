-- Each contract is an equation, so that two results that meet it are equal to a third.
use mathlib.Core.Path.{◌≡◌, sym, ◌∙◌}
use Rattle.kept.specs.Determined.{Determined}

-- two things that are equal to a third
one {ℓ} : {A : Type ℓ} {x y z : A} → x ≡ z → y ≡ z → x ≡ y
one p q = p ∙ sym q

pub determined : Determined
determined =
    record {
      fresh = λ p q. one p.result q.result;
      sdo = λ p q. (one p.result q.result, one p.bytes q.bytes);
      settle = λ p q. (one p.result q.result, one p.bytes q.bytes);
      control = λ p q. one p.result q.result;
      fault = λ p q. one p.result q.result;
      tick = λ p q. one p.result q.result;
      jump = λ p q. one p.result q.result;
      state = λ p q. one p.result q.result;
      status = λ p q. one p.result q.result;
      error = λ p q. one p.result q.result;
      position = λ p q. one p.result q.result;
      target = λ p q. one p.result q.result;
      command = λ p q. one p.result q.result;
      ticks_to_go = λ p q. one p.result q.result;
      receive = λ p q. one p.result q.result;
      send = λ p q. (one p.result q.result, one p.bytes q.bytes);
      store = λ p q. (one p.result q.result, one p.bytes q.bytes);
      load = λ p q. one p.result q.result;
      find = λ p q. (one p.bytes q.bytes, one p.same q.same, one p.begins q.begins);
      find_code = λ p q. one p.result q.result;
      equation = λ p q. one p q;
    }
