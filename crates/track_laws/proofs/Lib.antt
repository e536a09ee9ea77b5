mod Fewest
