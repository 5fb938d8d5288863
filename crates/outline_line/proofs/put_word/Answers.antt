use native.Mathlib.Omega.{arith}
use Rattle.outline_line.proofs.Laws.Written.{word_none, word-put, word-empty, word_1, word_2, word_3, word_4, word_5}
use Rattle.outline_line.proofs.put_word.Goals as goal

pub returns-in-1 : goal.returns-in-1
returns-in-1 c = (word-put c.args.kind _ (word_1 _ c.in-1.is) c.put_text.ensures, omega (arith, c.put_text.ensures.place))

pub returns-in-2 : goal.returns-in-2
returns-in-2 c = (word-put c.args.kind _ (word_2 _ c.in-2.is) c.put_text-in-2.ensures, omega (arith, c.put_text-in-2.ensures.place))

pub returns-in-3 : goal.returns-in-3
returns-in-3 c = (word-put c.args.kind _ (word_3 _ c.in-3.is) c.put_text-in-3.ensures, omega (arith, c.put_text-in-3.ensures.place))

pub returns-in-4 : goal.returns-in-4
returns-in-4 c = (word-put c.args.kind _ (word_4 _ c.in-4.is) c.put_text-in-4.ensures, omega (arith, c.put_text-in-4.ensures.place))

pub returns-in-5 : goal.returns-in-5
returns-in-5 c = (word-put c.args.kind _ (word_5 _ c.in-5.is) c.put_text-in-5.ensures, omega (arith, c.put_text-in-5.ensures.place))

pub returns-in_default : goal.returns-in_default
returns-in_default c = (word-empty _ _ _ (let r = c.in_default.in_default-own.rest in word_none _ r.0.0.0.0.1 r.0.0.0.1 r.0.0.1 r.0.1 r.1), omega arith)
