-- Every row of the table of known results is right, by computing the definitions. Assumes nothing.
use mathlib.Core.Path.{refl, subst⁻¹}
use mathlib.Core.List.Memᴰ
use mathlib.Core.List.{List, [], ◌∷◌, Memᴰ}
use mathlib.Core.Logic.{⊎_elim}
use Rattle.words.specs.Search as S
use Rattle.words.specs.Words as W
use Rattle.words.specs.Tables as T
use Rattle.words.specs.Refusals as R
use Rattle.words.specs.Answers as A
use Rattle.ceilings.specs.Ceilings as C
use Rattle.repeats.specs.Repeats as L
use Rattle.known.specs.Known.{Row, Right, rows, answer, tested, asked, said, bytes}

Each : List Row → Type 0
Each [] = Unit {0}
Each (r ∷ rs) = Right r × Each rs

each : Each rows
unfolding rows Each Right asked said answer tested bytes S.all S.any S.how_many S.greatest S.peak S.falling S.rising W.occurs W.is_border W.border W.prefix W.inside W.covers W.cover W.covered W.worth W.best W.count W.normal W.next W.breakdown W.cover_list W.weighs W.weighed W.limit T.tabulate T.written T.window T.placed R.first_no R.fewer R.log_no R.prefix_no R.cover_test_no R.best_no R.window_no A.accepted A.answer A.rooms A.outcome A.places A.middle A.weighing A.normal_answer A.cover_test_answer A.broken A.breakdown_answer A.best_pattern_no A.window_outcome C.ceiling C.stuck C.latest C.held C.ceiling_of C.ceiling_answer L.times L.repeats L.worth_by L.left_cover L.left_count L.begun L.reached L.left_seed L.seed_count
each = (refl, (refl, (refl, (refl, (refl, (refl, (refl, (refl, (refl, (refl, (refl, (refl, (refl, (refl, (refl, (refl, (refl, (refl, (refl, (refl, tt))))))))))))))))))))

each_at : (rs : List Row) → Each rs → (r : Row) → Memᴰ r rs → Right r
unfolding Each
each_at [] h r m = absurd (Memᴰ.not-nil m)
each_at (q ∷ rs) h r m = ⊎_elim (λ e. subst⁻¹ Right e h.0) (λ n. each_at rs h.1 r n) (Memᴰ.cases_cons m)

pub known : (r : Row) → Memᴰ r rows → Right r
known = each_at rows each
