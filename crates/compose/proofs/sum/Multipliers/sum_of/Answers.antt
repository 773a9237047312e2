use Rattle.std.proofs.Common.{◌≤◌, mul-le-mul, arith}
use Rattle.std.proofs.lemmas.Bool.Decides.{nat_tests}
use Rattle.compose.proofs.sum.Multipliers.sum_of.Goals as goal

pub overflow_add-result : goal.overflow_add-result
overflow_add-result c =
    let ranged = c.args.self.ranged in
    let low_p : c.args.self.p ≤ 1000 = grind (arith, nat_tests, ranged) in
    let low_q : c.args.self.q ≤ 1000 = grind (arith, nat_tests, ranged) in
    let a : c.counted.result ≤ 99999999999 = omega (arith, c.counted.ensures.answer) in
    let b : c.counted-2.result ≤ 99999999999 = omega (arith, c.counted-2.ensures.answer) in
    omega (arith, mul-le-mul low_p a, mul-le-mul low_q b)
