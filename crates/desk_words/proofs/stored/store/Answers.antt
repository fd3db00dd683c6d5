use mathlib.Core.Path.{◌≡◌}
use lib.ListN.{length}
use Rattle.desk_words.proofs.Back.{front_put, class_put}
use borrow.Author.Rules.{rules}
use Rattle.desk_words.proofs.stored.store.Goals as goal

pub returns : goal.returns
returns c = let s : length c.args.front.line ≡ 16 = (let g = c.well_formed in search rules) in
    let w = c.store_place.ensures in (
      front_put c.args.front c.args.told c.args.at c.args.place c.args.words.now _ _ c.requires.0 c.requires.1 s w.1 c.put_run.ensures w.0,
      class_put c.args.front c.args.told c.args.at c.args.place c.args.words.now _ _ c.requires.0 c.requires.1 s w.1 c.put_run.ensures w.0,
    )
