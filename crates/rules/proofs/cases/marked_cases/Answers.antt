use Rattle.std.proofs.Common.{refl}
use Rattle.slots.specs.Lists.{any, first, at_first, kept, each}
use Rattle.rules.specs.Horizon.{least_time}
use Rattle.rules.specs.Looking.{walk}
use Rattle.rules.proofs.cases.marked_cases.Goals as goal

pub returns : goal.returns
unfolding any first at_first kept each least_time walk
returns c = record {
  version_edges = λ s. (refl, refl, refl);
  entry_edges = λ s. (refl, refl, refl, refl);
  conflict_edges = (refl, refl);
  stale_edges = (refl, refl);
  horizon_edges = (refl, refl);
  due_edges = λ borne. (refl, refl, refl, refl);
  bloom_places = (refl, refl, refl, refl, refl, refl);
  overtaken_move = (refl, refl);
}
