use Rattle.lab_plain.proofs.lines.SaidTextSource.write_to.Goals as goal

pub returns-in-Caches : goal.returns-in-Caches
returns-in-Caches g c = rw c.in-Caches.is c.write_held.ensures

pub returns-in-LoadsWord : goal.returns-in-LoadsWord
returns-in-LoadsWord g c = rw c.in-LoadsWord.is c.write_access.ensures

pub returns-in-StoresWord : goal.returns-in-StoresWord
returns-in-StoresWord g c = rw c.in-StoresWord.is c.write_access-in-StoresWord.ensures
