-- What each call's answer in Rust stands for in the document: a value for the answer that carries it with the number 0, a refusal for the answer that carries
-- its number with zeros. Assumes nothing.
use Rattle.std.specs.Prelude.{Bool, cond, [], ℕ, Result}
use Rattle.words.specs.declared.Part.{Part}
use Rattle.words.specs.declared.Written.{Written}
use Rattle.words.specs.declared.Weighing.{Weighing}
use Rattle.words.specs.declared.Listed.{Listed}
use Rattle.words.specs.declared.Normal.{Normal}
use Rattle.words.specs.declared.Breakdown.{Breakdown}
use Rattle.words.specs.declared.Weighed.{Weighed}
use Rattle.words.specs.declared.Pattern.{Pattern}
use Rattle.words.specs.Answers.{CoverTest, Yes, No, Refused}
use Rattle.words.specs.Answers.{no_weighing, broken, listed}
use Rattle.ceilings.specs.declared.Ceiling.{Ceiling}
use Rattle.refusals.specs.declared.Refusal.{Refusal}
use Rattle.refusals.specs.Numbers.{stands_for}

-- border_table, prefix_table, cover_table, left_covers and left_seeds
abbrev pub written_of : Result (Unit {0}) Refusal → Written
written_of r = stands_for (λ _. record { number = 0 }) (λ k. record { number = k }) r

-- enhanced_table and window: the weighed total
abbrev pub weighing_of : Result ℕ Refusal → Weighing
weighing_of r = stands_for (λ n. record { number = 0; total = n }) no_weighing r

-- cover_list: how many were written
abbrev pub listed_of : Result ℕ Refusal → Listed
listed_of r = stands_for (λ n. record { number = 0; used = n }) (λ k. record { number = k; used = 0 }) r

abbrev pub normal_of : Result Part Refusal → Normal
normal_of r = stands_for (λ p. record { number = 0; k1 = p.k1; k2 = p.k2; k = p.k }) (λ k. record { number = k; k1 = 0; k2 = 0; k = 0 }) r

abbrev pub test_of : Result Bool Refusal → CoverTest
test_of r = stands_for (λ b. cond b Yes No) Refused r

abbrev pub weighed_of : Result Weighed Refusal → Weighed
weighed_of r = stands_for (λ w. w) (λ k. listed k [] 0) r

abbrev pub breakdown_of : Result Breakdown Refusal → Breakdown
breakdown_of r = stands_for (λ b. b) (λ k. broken k []) r

-- pattern: its length
abbrev pub pattern_of : Result ℕ Refusal → Pattern
pattern_of r = stands_for (λ n. record { number = 0; len = n }) (λ k. record { number = k; len = 0 }) r

abbrev pub ceiling_of : Result Ceiling Refusal → Ceiling
ceiling_of r = stands_for (λ c. c) (λ k. record { number = k; held = 0; ceiling = 0 }) r
