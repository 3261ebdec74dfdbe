-- The two ways of a file's text. Assumes nothing.
use Rattle.std.proofs.Common.{◌≡◌, ℕ, List, sym, ◌∙◌, ap}
use Rattle.words.specs.PlantFile as F
use Rattle.words.proofs.Refusals.{answer_yes, answer_no}
use Rattle.refusals.specs.declared.Refusal.{Refusal}
use Rattle.refusals.specs.Numbers.{number_of}
use Rattle.refusals.proofs.Numbers.{some_number}
use Rattle.facts.specs.Report.{refused_text}
use Rattle.reporting.specs.Texts.{file_text}

pub file_accepted : (f : List ℕ) {x : List ℕ} → 0 ≡ F.file_no f → x ≡ F.symbols f → (said : List ℕ → List ℕ) → file_text said f ≡ said x
unfolding file_text
file_accepted f z e said = answer_yes (F.file_no f) (said (F.symbols f)) refused_text (sym z) ∙ ap said (sym e)

pub file_refused : (f : List ℕ) (r : Refusal) → number_of r ≡ F.file_no f → (said : List ℕ → List ℕ) → refused_text (number_of r) ≡ file_text said f
unfolding file_text
file_refused f r e said = ap refused_text e ∙ sym (answer_no (F.file_no f) (said (F.symbols f)) refused_text (λ z. some_number r (e ∙ z)))
