-- What the order of patterns comes to: of two, the greater wins. Assumes nothing.
use Rattle.std.proofs.Common.{Ordering, ◌≡◌, arith}
use Rattle.std.proofs.lemmas.Bool.Decides.{nat_tests}
use Rattle.std.specs.Ordering.{ord_max, on, flip_args, then_cmp, nat_cmp}
use Rattle.repeats.specs.declared.Found.{Found}
use Rattle.repeats.specs.Better.{Better}

abbrev pub by_worth : Found → Found → Ordering
by_worth = then_cmp (on (λ (f : Found). f.count) nat_cmp) (flip_args (on (λ (f : Found). f.len) nat_cmp))

greater : (a b : Found) → Better a b (ord_max by_worth a b)
greater a b = grind (arith, nat_tests)

pub greater_wins : {a b r : Found} → r ≡ ord_max by_worth a b → Better a b r
greater_wins {a} {b} e = rw e (greater a b)
