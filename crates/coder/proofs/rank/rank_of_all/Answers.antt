use Rattle.std.proofs.Common.{◌≡◌, length, ap, ◌∙◌, arith}
use Rattle.std.proofs.lemmas.List.{take-replicate}
use Rattle.coder.specs.Connectivity.{whole}
use Rattle.coder.specs.Rank.{rank}
use Rattle.coder.specs.lemmas.Sides.{rank_covers}
use Rattle.coder.proofs.rank.rank_of_all.Goals as goal

pub returns : goal.returns
returns c =
    let cs = c.args.columns.now in
    let all : c.rank_of.result ≡ rank cs (whole (length cs)) =
    c.rank_of.ensures.answer ∙ ap (rank cs) (take-replicate (length cs) 80 1 c.requires.few) in
    record { answer = all; covered = λ row long. omega (arith, all, rank_covers cs row long) }
