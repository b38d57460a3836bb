use Rattle.std.proofs.Common.{true, false, ◌∷◌, ◌++◌, Some, None, refl, Ok, Err}
use Rattle.slots.specs.Lists.{any, first, at_first, kept, each}
use Rattle.cold.specs.Cold.{put_in}
use Rattle.rules.specs.Horizon.{least_time}
use Rattle.rules.specs.Looking.{walk}
use Rattle.rules.specs.declared.answers.Swept.TheVariants.{Emptied}
use Rattle.rules.specs.declared.answers.Refusal.TheVariants as refusal
use Rattle.rules.specs.declared.answers.Answer.TheVariants as answer
use Rattle.rules.specs.declared.answers.Call.TheVariants as call
use Rattle.law.specs.Runs.{Runs}
use Rattle.law.specs.Sample.{gets}
use Rattle.law.specs.Tempting.{WithStep, ByRules, overtaken, copied_late, dropped_then, two_begin, two_look, two_list, read_of_seen, dropped_below, swept_early, read_then}
use Rattle.law.proofs.tempting_errors.Goals as goal

late_copy : WithStep overtaken copied_late (dropped_then (Some 50))
unfolding Runs any first at_first kept each put_in least_time walk
late_copy = (_, _, (_, refl, (_, refl, (_, refl, (_, refl, (_, refl, (_, refl, (_, refl, (_, refl, (_, refl, refl))))))))), (_, refl, (_, refl, (_, refl, (_, refl, (_, refl, (_, refl, refl)))))))

late_copy_refused : ByRules (overtaken ++ (gets (call.Copy 1) (Err refusal.MoveOver) ∷ dropped_then None))
unfolding Runs any first at_first kept each put_in least_time walk
late_copy_refused = (_, (_, refl, (_, refl, (_, refl, (_, refl, (_, refl, (_, refl, (_, refl, (_, refl, (_, refl, (_, (λ k. false, λ h e. absurd cc, refl), (_, refl, (_, refl, (_, refl, (_, refl, (_, refl, (_, refl, refl)))))))))))))))))

forgotten_reads : WithStep two_begin (λ σ. read_of_seen 1 7 (read_of_seen 0 8 σ)) (two_list (Ok (answer.At 3)))
unfolding Runs any first at_first kept each put_in least_time walk
forgotten_reads = (_, _, (_, refl, (_, refl, refl)), (_, refl, (_, refl, (_, refl, (_, refl, refl)))))

entered_reads : ByRules (two_begin ++ (two_look ++ two_list (Err refusal.StaleRead)))
unfolding Runs any first at_first kept each put_in least_time walk
entered_reads = (_, (_, refl, (_, refl, (_, refl, (_, refl, (_, refl, (_, refl, (_, refl, (_, refl, refl)))))))))

early_sweep : WithStep dropped_below swept_early (read_then (Some 50))
unfolding Runs any first at_first kept each put_in least_time walk
early_sweep = (_, _, (_, refl, (_, refl, (_, refl, (_, refl, (_, (λ k. true, λ h e. (refl, λ n a. refl), refl), (_, refl, (_, refl, (_, refl, (_, refl, (_, refl, refl)))))))))), (_, refl, (_, refl, refl)))

sweep_by_rules : ByRules (dropped_below ++ (gets call.Sweep (Ok (answer.Swept Emptied)) ∷ read_then None))
unfolding Runs any first at_first kept each put_in least_time walk
sweep_by_rules = (_, (_, refl, (_, refl, (_, refl, (_, refl, (_, (λ k. true, λ h e. (refl, λ n a. refl), refl), (_, refl, (_, refl, (_, refl, (_, refl, (_, refl, (_, refl, (_, refl, (_, refl, refl))))))))))))))

pub returns : goal.returns
returns c = record {
  late_copy = late_copy;
  late_copy_refused = late_copy_refused;
  forgotten_reads = forgotten_reads;
  entered_reads = entered_reads;
  early_sweep = early_sweep;
  sweep_by_rules = sweep_by_rules;
}
