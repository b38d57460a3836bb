use Rattle.std.proofs.Common.{take, sym}
use Rattle.slots.proofs.Used.{found_changed, none_changed, found_any, none_any}
use Rattle.slots.proofs.change.edit_first.Goals as goal

pub returns-in-None : goal.returns-in-None
returns-in-None g c =
    let xs = c.args.slots.now in
    record {
      answer = λ p d. none_any p (take c.args.used xs) (sym (c.in-None.ensures p d));
      list = λ p e d m. none_changed p e c.args.used xs (sym (c.in-None.ensures p d));
    }

pub returns-in-Some : goal.returns-in-Some
returns-in-Some g c =
    let xs = c.args.slots.now in
    record {
      answer = λ p d. found_any p (take c.args.used xs) c.in-Some.hit (sym (c.in-Some.ensures p d));
      list = λ p e d m. found_changed p e c.args.used xs c.in-Some.hit _ (sym (c.in-Some.ensures p d)) (c.edit_at.ensures e m);
    }
