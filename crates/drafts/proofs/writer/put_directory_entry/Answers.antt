use Rattle.drafts.proofs.Writing.{entry_put}
use Rattle.drafts.proofs.writer.put_directory_entry.Goals as goal

pub returns : goal.returns
returns c =
    entry_put c.args.out.now c.args.at c.args.e.tag.0 c.args.e.pos c.args.e.len c.requires c.put_u16.ensures c.put_u16-2.ensures c.put_u16-3.ensures
