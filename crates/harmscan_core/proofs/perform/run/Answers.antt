use Rattle.std.proofs.Common.{◌∙◌, sym, ℕ, subst}
use Rattle.harmscan_core.specs.Outcome.{IsComplete, IsRefusal, RefusesFor}
use Rattle.harmscan_core.specs.Subject.{drilled}
use Rattle.harmscan_core.proofs.Complete.{complete_for, drilled_for, refused_for}
use Rattle.harmscan_core.proofs.Causes.{read_rose, write_rose, memory_rose, asks_files, writes_report_at, nothing_put, stops_within, words_refused, words_none}
use Rattle.harmscan_core.proofs.perform.run.Goals as goal

pub returns-clause-read_fault : goal.returns-clause-read_fault
returns-clause-read_fault g c = λ r. c.status.ensures ∙ read_rose _ _ _ _ _ _ c.perform-outcome.ensures r

pub returns-clause-write_fault : goal.returns-clause-write_fault
returns-clause-write_fault g c = λ r. c.status.ensures ∙ write_rose _ _ _ _ _ _ c.perform-outcome.ensures r

pub returns-clause-write_memory : goal.returns-clause-write_memory
returns-clause-write_memory g c = λ r. c.status.ensures ∙ memory_rose _ _ _ _ _ _ c.perform-outcome.ensures r

pub returns-clause-words : goal.returns-clause-words
returns-clause-words g c = (λ e. words_refused _ _ _ _ _ _ c.perform-outcome.ensures (sym c.status.ensures ∙ e), λ e. c.status.ensures ∙ words_none _ _ _ _ _ _ c.perform-outcome.ensures e)

pub returns-clause-report : goal.returns-clause-report
returns-clause-report g c = λ p. writes_report_at _ _ _ _ _ _ _ c.perform-outcome.ensures c.status.ensures p

pub returns-clause-asks : goal.returns-clause-asks
returns-clause-asks g c = asks_files _ _ _ _ _ _ c.perform-outcome.ensures

pub returns-clause-nothing_put : goal.returns-clause-nothing_put
returns-clause-nothing_put g c = λ p. nothing_put _ _ _ _ _ _ c.perform-outcome.ensures (subst IsRefusal c.status.ensures p)

pub returns-clause-front_put : goal.returns-clause-front_put
returns-clause-front_put g c = λ e. stops_within _ _ _ _ _ _ c.perform-outcome.ensures (sym c.status.ensures ∙ e)

pub returns-clause-refused : goal.returns-clause-refused
returns-clause-refused g c = λ r o w told read.
    subst (λ (s : ℕ). RefusesFor o s (g.O.Sink.state c.args.out.now) (g.O.Sink.state c.perform-outcome.new.out) (g.E.Sink.state c.args.err.now) (g.E.Sink.state c.say.new.err)) (sym c.status.ensures)
    (refused_for _ r o _ _ _ _ _ _ _ c.perform-outcome.ensures c.say.ensures w told read)

pub returns-clause-complete : goal.returns-clause-complete
returns-clause-complete g c = λ r subject w told read write.
    subst (λ (s : ℕ). IsComplete s (g.O.Sink.state c.args.out.now) (g.O.Sink.state c.perform-outcome.new.out) subject) (sym c.status.ensures)
    (complete_for _ r subject _ _ _ _ _ c.perform-outcome.ensures w told read write)

pub returns-clause-drilled : goal.returns-clause-drilled
returns-clause-drilled g c = λ number w write.
    subst (λ (s : ℕ). IsComplete s (g.O.Sink.state c.args.out.now) (g.O.Sink.state c.perform-outcome.new.out) (drilled number)) (sym c.status.ensures)
    (drilled_for _ number _ _ _ _ _ c.perform-outcome.ensures w write)
