use Rattle.std.proofs.Common.{false, refl}
use Rattle.slots.specs.Lists.{any, first, at_first, kept, each}
use Rattle.rules.specs.Horizon.{least_time}
use Rattle.rules.specs.Looking.{walk}
use Rattle.law.specs.Runs.{Runs}
use Rattle.law.proofs.sample_run.Goals as goal

-- each step computes; the copy adds nothing to the filter, since no row is chosen any more
pub returns : goal.returns
unfolding Runs any first at_first kept each least_time walk
returns c = (
  _,
  (
    _,
    refl,
    (
      _,
      refl,
      (
        _,
        refl,
        (
          _,
          refl,
          (
            _,
            refl,
            (
              _,
              refl,
              (
                _,
                refl,
                (
                  _,
                  refl,
                  (
                    _,
                    (λ k. false, λ h e. absurd cc, refl),
                    (_, refl, (_, refl, (_, refl, (_, refl, (_, refl, (_, refl, refl)))))),
                  ),
                ),
              ),
            ),
          ),
        ),
      ),
    ),
  ),
)
