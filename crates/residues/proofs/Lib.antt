mod Sevens
