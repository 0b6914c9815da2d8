-- What the shelf tells of the files is reported or refused, unless memory is wanting.
use Rattle.std.proofs.Common.{◌≡◌, inl, inr, ℕ, Option, Some, None, Ok, Err, refl, ap, ◌∙◌, subst}
use Rattle.harm_io.specs.Causes.{Rose}
use Rattle.harm_io.specs.Shelves.{ShelfState}
use Rattle.harm_io.specs.Sinks.{SinkState}
use Rattle.harmscan_core.specs.Lines.{line_at}
use Rattle.harmscan_core.specs.Outcome.{Reports, Happens, ends, reports, HappensFor, status_at, IsComplete, RefusesFor, Says}
use Rattle.harmscan_core.specs.Subject.{Subject, drilled, TellsFor}
use Rattle.harmscan_core.specs.Words.{Reading, drill}
use Rattle.harmscan_core.specs.declared.outcome.Outcome.{Outcome}
use Rattle.harmscan_core.specs.declared.outcome.Outcome.TheVariants.{WordsRefused, ReadFailed, TooLarge, Refused, WriteFailed, NoMemory, Written}
use Rattle.harmscan_core.proofs.Subjects.{reads_as_told}

-- a subject that is reported of is reported of whole, unless memory is wanting
whole : (subject : Subject) (out out' : SinkState) (o : Outcome) → Reports subject out out' o → (Rose out.faults out'.faults → ⊥) → IsComplete (status_at o) out out' subject
whole subject out out' WriteFailed h or = absurd (or h.cause.rose)
whole subject out out' NoMemory h or = inl refl
whole subject out out' (Written x) h or = inr h
whole subject out out' WordsRefused h or = absurd h
whole subject out out' (ReadFailed f) h or = absurd h
whole subject out out' (TooLarge f) h or = absurd h
whole subject out out' (Refused r) h or = absurd h

complete : (r : Reading) (subject : Subject) (s t : ShelfState) (out out' : SinkState) (o : Outcome) → Happens r s t out out' o → TellsFor r s (Ok subject)
    → (Rose s.faults t.faults → ⊥) → (Rose out.faults out'.faults → ⊥) → IsComplete (status_at o) out out' subject
complete r subject s t out out' o (ends h e) told sr or =
    elim ((reads_as_told r).agree s s s t (Ok subject) (Err o) refl told h (λ _ _ rose. sr rose)) [
      | inl same ↦ absurd (cc)
      | inr lacks ↦ let same : o ≡ NoMemory = cc in inl (ap status_at same)
    ]
complete r subject s t out out' o (reports other h k) told sr or =
    elim ((reads_as_told r).agree s s s t (Ok subject) (Ok other) refl told h (λ _ _ rose. sr rose)) [
      | inl same ↦ let one : other ≡ subject = cc in subst (IsComplete (status_at o) out out') one (whole other out out' o k or)
      | inr lacks ↦ absurd (cc)
    ]

pub complete_for : (w : Option Reading) (r : Reading) (subject : Subject) (s t : ShelfState) (out out' : SinkState) (o : Outcome) → HappensFor w s t out out' o → w ≡ Some r → TellsFor r s (Ok subject)
    → (Rose s.faults t.faults → ⊥) → (Rose out.faults out'.faults → ⊥) → IsComplete (status_at o) out out' subject
complete_for None r subject s t out out' o h e told sr or = absurd (cc)
complete_for (Some q) r subject s t out out' o h e told sr or =
    let same : q ≡ r = cc in complete r subject s t out out' o (subst (λ (x : Reading). Happens x s t out out' o) same h) told sr or

-- ---- a drill
drilled_whole : (number : ℕ) (s t : ShelfState) (out out' : SinkState) (o : Outcome) → Happens (drill number) s t out out' o → (Rose out.faults out'.faults → ⊥) → IsComplete (status_at o) out out' (drilled number)
drilled_whole number s t out out' o (ends h e) or = let answer = h.answer in absurd (cc)
drilled_whole number s t out out' o (reports subject h k) or =
    let answer = h.answer in let one : subject ≡ drilled number = cc in subst (IsComplete (status_at o) out out') one (whole subject out out' o k or)

pub drilled_for : (w : Option Reading) (number : ℕ) (s t : ShelfState) (out out' : SinkState) (o : Outcome) → HappensFor w s t out out' o → w ≡ Some (drill number)
    → (Rose out.faults out'.faults → ⊥) → IsComplete (status_at o) out out' (drilled number)
drilled_for None number s t out out' o h e or = absurd (cc)
drilled_for (Some r) number s t out out' o h e or =
    let same : r ≡ drill number = cc in drilled_whole number s t out out' o (subst (λ (x : Reading). Happens x s t out out' o) same h) or

-- ---- refusals
refused : (r : Reading) (wanted : Outcome) (s t : ShelfState) (out out' err err' : SinkState) (o : Outcome) → Happens r s t out out' o → Says (line_at o) err err' → TellsFor r s (Err wanted)
    → (Rose s.faults t.faults → ⊥) → RefusesFor wanted (status_at o) out out' err err'
refused r wanted s t out out' err err' o (ends h e) said told sr =
    elim ((reads_as_told r).agree s s s t (Err wanted) (Err o) refl told h (λ _ _ rose. sr rose)) [
      | inl same ↦
          let one : o ≡ wanted = cc in
          inr (ap status_at one ∙ (reads_as_told r).status s s wanted told, e, subst (λ (x : Outcome). Says (line_at x) err err') one said)
      | inr lacks ↦ let one : o ≡ NoMemory = cc in inl (ap status_at one)
    ]
refused r wanted s t out out' err err' o (reports subject h k) said told sr =
    elim ((reads_as_told r).agree s s s t (Err wanted) (Ok subject) refl told h (λ _ _ rose. sr rose)) [
      | inl same ↦ absurd (cc)
      | inr lacks ↦ absurd (cc)
    ]

pub refused_for : (w : Option Reading) (r : Reading) (wanted : Outcome) (s t : ShelfState) (out out' err err' : SinkState) (o : Outcome) → HappensFor w s t out out' o → Says (line_at o) err err' → w ≡ Some r
    → TellsFor r s (Err wanted) → (Rose s.faults t.faults → ⊥) → RefusesFor wanted (status_at o) out out' err err'
refused_for None r wanted s t out out' err err' o h said e told sr = absurd (cc)
refused_for (Some q) r wanted s t out out' err err' o h said e told sr =
    let same : q ≡ r = cc in refused r wanted s t out out' err err' o (subst (λ (x : Reading). Happens x s t out out' o) same h) said told sr
