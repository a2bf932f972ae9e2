-- The games by their names: each with its rules, its texts and its drawings.
use Rattle.std.specs.Prelude.{ℕ, true, false, List}
use Rattle.gm_game.specs.declared.position.Position.{Position}
use Rattle.gm_game.specs.Rules.{Rules}
use Rattle.gm_draw.specs.Pictures.{PictureSpec}
use Rattle.gm_command.specs.declared.names.GameName.{GameName}
use Rattle.gm_command.specs.declared.names.GameName.TheVariants.{Countdown, Wheel, TacTix1, TacTix2, TacTix3, TacTix4, TacTix5, TacTix1Misere, TacTix2Misere}
use Rattle.gm_command.specs.declared.names.GameName.TheVariants.{TacTix3Misere, TacTix4Misere, TacTix5Misere, TicTacToe, ThreeMens, Achi, MuTorere, Dao, Hare}
use Rattle.gm_command.specs.declared.names.GameName.TheVariants.{PongHauKi, Shisima, Takeaway, Tapatan, Dodgem, Krk, Kqk, FoxHounds}
use Rattle.gm_command.specs.declared.names.GameName.TheVariants.{TicTacToeMisere, TicTacToe4, Notakto, Hex3, Hex4, Sim}
use Rattle.gm_command.specs.declared.names.GameName.TheVariants.{Hexapawn, Hexapawn4, NineHoles, Picaria, Clobber, Toads, Kono}
use Rattle.gm_command.specs.declared.names.GameName.TheVariants.{Domineering4, Domineering5, Cram4, Cram5, Kayles, Kpk}
use Rattle.gm_command.specs.declared.names.GameName.TheVariants.{Connect4x4, Connect5x4, Connect4x5, Connect4x6, Connect5x5, Connect6x4, Nim, NimMisere, Chomp}
pub use Rattle.gm_draw.specs.GameSpecs.{GameSpec, game_spec}
pub use Rattle.gm_connect.specs.ConnectPicture.{connect_spec}
pub use Rattle.gm_dao.specs.DaoPicture.{dao_spec}
pub use Rattle.gm_dodgem.specs.DodgemPicture.{dodgem_spec}
pub use Rattle.gm_dominoes.specs.DominoPictures.{domineering_four_spec, domineering_five_spec, cram_four_spec, cram_five_spec, kayles_spec}
pub use Rattle.gm_hare.specs.HarePicture.{hare_spec}
pub use Rattle.gm_morris.specs.NinePicture.{nine_spec}
pub use Rattle.gm_mutorere.specs.RingPicture.{mutorere_spec}
pub use Rattle.gm_numbers.specs.NumbersPictures.{nim_spec, chomp_spec}
pub use Rattle.gm_placing.specs.PlacingPictures.{tictactoe_misere_spec, tictactoe_four_spec, notakto_spec, hex_three_spec, hex_four_spec, sim_spec}
pub use Rattle.gm_pong.specs.PongPicture.{pong_spec}
pub use Rattle.gm_sliding.specs.SlidingPictures.{hexapawn_spec, hexapawn_four_spec, nine_holes_spec, picaria_spec, clobber_spec, kono_spec}
pub use Rattle.gm_sliding.specs.ToadsPicture.{toads_spec}
pub use Rattle.gm_squares.specs.Pictures.{chess_spec, kpk_spec, foxhounds_spec}
pub use Rattle.gm_tactix.specs.TactixPicture.{tactix_spec}
pub use Rattle.gm_toys.specs.Pictures.{countdown_spec, takeaway_spec, wheel_spec}
pub use Rattle.gm_ways.specs.WayPictures.{shisima_spec, tapatan_spec}

-- what a type of a game states: the ghost members of `Pictured`, with those of the traits above it
abbrev pub Stated : Type 0
Stated = record { rules : Rules; shown : Position → List ℕ; move_shown : Position → ℕ → List ℕ; picture : PictureSpec }

-- the game of such a type
abbrev pub spec : Stated → GameSpec
spec g = game_spec g.rules g.shown g.move_shown g.picture

-- each game by its name
abbrev pub spec_of : GameName → GameSpec
spec_of Countdown = countdown_spec
spec_of Wheel = wheel_spec
spec_of TacTix1 = tactix_spec 1 false
spec_of TacTix2 = tactix_spec 2 false
spec_of TacTix3 = tactix_spec 3 false
spec_of TacTix4 = tactix_spec 4 false
spec_of TacTix5 = tactix_spec 5 false
spec_of TacTix1Misere = tactix_spec 1 true
spec_of TacTix2Misere = tactix_spec 2 true
spec_of TacTix3Misere = tactix_spec 3 true
spec_of TacTix4Misere = tactix_spec 4 true
spec_of TacTix5Misere = tactix_spec 5 true
spec_of TicTacToe = nine_spec 9
spec_of ThreeMens = nine_spec 6
spec_of Achi = nine_spec 8
spec_of MuTorere = mutorere_spec
spec_of Dao = dao_spec
spec_of Hare = hare_spec
spec_of PongHauKi = pong_spec
spec_of Shisima = shisima_spec
spec_of Takeaway = takeaway_spec
spec_of Tapatan = tapatan_spec
spec_of Dodgem = dodgem_spec
spec_of Krk = chess_spec false
spec_of Kqk = chess_spec true
spec_of FoxHounds = foxhounds_spec
spec_of TicTacToeMisere = tictactoe_misere_spec
spec_of TicTacToe4 = tictactoe_four_spec
spec_of Notakto = notakto_spec
spec_of Hex3 = hex_three_spec
spec_of Hex4 = hex_four_spec
spec_of Sim = sim_spec
spec_of Hexapawn = hexapawn_spec
spec_of Hexapawn4 = hexapawn_four_spec
spec_of NineHoles = nine_holes_spec
spec_of Picaria = picaria_spec
spec_of Clobber = clobber_spec
spec_of Toads = toads_spec
spec_of Kono = kono_spec
spec_of Domineering4 = domineering_four_spec
spec_of Domineering5 = domineering_five_spec
spec_of Cram4 = cram_four_spec
spec_of Cram5 = cram_five_spec
spec_of Kayles = kayles_spec
spec_of Kpk = kpk_spec
spec_of Connect4x4 = connect_spec 4 4
spec_of Connect5x4 = connect_spec 5 4
spec_of Connect4x5 = connect_spec 4 5
spec_of Connect4x6 = connect_spec 4 6
spec_of Connect5x5 = connect_spec 5 5
spec_of Connect6x4 = connect_spec 6 4
spec_of Nim = nim_spec false
spec_of NimMisere = nim_spec true
spec_of Chomp = chomp_spec
